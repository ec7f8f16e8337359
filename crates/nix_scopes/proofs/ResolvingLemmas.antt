-- What has been found so far while a text is resolved.
use Rattle.std.proofs.Common.{◌≡◌, ℕ, suc, ◌+◌, ◌-◌, ◌≤◌, List, [], ◌∷◌, ◌++◌, drop, map, Bool, true, false, None, refl, ap, sym, ◌∙◌, subst, append_assoc}
use Rattle.std.{proofs.{Common.arith, lemmas.List.map-append}, specs.{List.All, Prelude.{flat_map, filter, if◌then◌else◌, ◌||◌, ◌&&◌, is_some}}}
use Rattle.rnix_green.specs.{Tree.{Located, item_of}, Walk.{Spot, spot_at, counted, nodes_in, elements_of}, Equality.{same_kind, same_kind-decides}}
use Rattle.{rnix_base.specs.Select.token_of, nix_scopes.specs.declared.{resolution.{Binding.Binding, Reference.Reference}, environment.Environment.Environment}}
use Rattle.nix_scopes.specs.{Names.Named, Binders.{is_binder, is_scope}, References.{references_at, references_in}, Bound.{bound_of, resolved_of, name_of}}
use Rattle.nix_scopes.specs.Scopes.{Bound, Resolved, bindings_at, lexical_bindings, around, is_with_body, resolved_among, resolved_at, lexical_references}
use Rattle.nix_scopes.specs.Resolving.{IsEnvironment, number_by, resolve_at, last_in, still_open, is_set}
use Rattle.nix_scopes.proofs.{WalkLemmas.{node_there, token_alone, taken}, OpenLemmas.{IsBelow, HoldLater, reaches, begun, past_token, past_node}}
use Rattle.nix_scopes.proofs.{OpenLemmas.{around_is, still_open_is, parent_around}, ScopeLemmas.{seen_begun, still_seen}, ResolvedLemmas.{bound_later, seen_resolved}}
use Rattle.rnix_tree.specs.InsideCounts.{inside_count}
use Rattle.rnix_kinds.specs.declared.kinds.SyntaxKind.TheVariants as k

-- what has been found before the remaining elements of a walk, and the environment there
pub record IsFound (root : Located) (bindings : List Binding) (references : List Reference) (env : Environment) (remaining : ℕ)
    (spots : List Spot) : Type 0 where
  pub number : ℕ
  pub inside : root.number ≤ number
  pub count : remaining ≡ last_in root - number
  pub walk : spots ≡ map (spot_at root.tree) (counted number (suc (last_in root) - number))
  pub nodes : List Located
  pub are_open : HoldLater root number nodes
  pub sees : IsEnvironment root bindings env number (filter is_scope nodes) (filter is_with_body nodes) (filter is_set nodes)
  pub bound : map bound_of bindings ++ flat_map bindings_at (nodes_in spots) ≡ lexical_bindings root
  pub listing : map resolved_of references ++ flat_map (resolved_at root) (nodes_in spots) ≡ lexical_references root

-- an `inherit` is not a scope
inherit_no_scope : (e : Located) → same_kind k.NODE_INHERIT (item_of e).kind ≡ true → is_scope e ≡ false
inherit_no_scope e is =
    ap (λ kind. is_binder kind || (same_kind k.NODE_ATTR_SET kind && is_some (token_of (same_kind k.TOKEN_REC) e)))
    (sym ((same_kind-decides k.NODE_INHERIT (item_of e).kind).0 is))

-- nor is it an attribute set
inherit_no_set : (e : Located) → same_kind k.NODE_INHERIT (item_of e).kind ≡ true → is_set e ≡ false
inherit_no_set e is = ap (same_kind k.NODE_ATTR_SET) (sym ((same_kind-decides k.NODE_INHERIT (item_of e).kind).0 is))

-- adding the list of the next element
more_listed : {X Y : Type 0} (f : X → List Y) (so_far new all : List Y) (x : X) (xs : List X) → so_far ++ flat_map f (x ∷ xs) ≡ all →
    new ≡ so_far ++ f x → new ++ flat_map f xs ≡ all
more_listed f so_far new all x xs is added = ap (λ ys. ys ++ flat_map f xs) added ∙ append_assoc so_far (f x) (flat_map f xs) ∙ is

-- adding the mapped list of the next element
pub mapped_next : {X Y : Type 0} (f : Located → List X) (g : X → Y) (so_far new all : List Y) (before after : List Located) (e same : Located) →
    so_far ++ map g (flat_map f before) ≡ all → before ≡ e ∷ after → same ≡ e → new ≡ so_far ++ map g (f same) → new ++ map g (flat_map f after) ≡ all
mapped_next f g so_far new all before after e same is first same_is added =
    ap (λ ys. ys ++ map g (flat_map f after)) (added ∙ ap (λ x. so_far ++ map g (f x)) same_is) ∙ append_assoc so_far (map g (f e)) (map g (flat_map f after))
    ∙ ap (λ ys. so_far ++ ys) (sym (map-append g (f e) (flat_map f after))) ∙ ap (λ es. so_far ++ map g (flat_map f es)) (sym first) ∙ is

-- functions with equal results map a list to equal lists
map_alike : {X Y : Type 0} (f g : X → Y) → ((x : X) → f x ≡ g x) → (xs : List X) → map f xs ≡ map g xs
map_alike f g same [] = refl
map_alike f g same (x ∷ xs) = ap (λ y. y ∷ map f xs) (same x) ∙ ap (λ ys. g x ∷ ys) (map_alike f g same xs)

-- before the walk nothing has been found
pub found_begun : (root : Located) (bindings : List Binding) (references : List Reference) (env : Environment) (remaining : ℕ) (spots : List Spot) →
    remaining ≡ inside_count root → spots ≡ elements_of root → bindings ≡ [] → references ≡ [] →
    ((text : List ℕ) → number_by env.symbols.numbers text ≡ None) → env.symbols.shadowed.items ≡ [] → env.symbols.scopes.items ≡ [] →
    env.scope_ends.items ≡ [] → env.body_ends.items ≡ [] → env.set_ends.items ≡ [] → env.set_scopes.items ≡ [] →
    IsFound root bindings references env remaining spots
found_begun root bindings references env remaining spots count is none no_references no_numbers no_hidden no_scopes no_ends no_bodies no_sets no_set_scopes =
    let all : 1 + inside_count root ≡ suc (last_in root) - root.number = omega arith in
    record {
      number = root.number;
      inside = omega arith;
      count = omega (arith, count);
      walk = is ∙ ap (λ k. map (spot_at root.tree) (counted root.number k)) all;
      nodes = [];
      are_open = begun root;
      sees = record {
        has_scopes = (seen_begun bindings env.symbols root.number none no_numbers no_hidden no_scopes, no_ends);
        has_bodies = no_bodies;
        has_sets = (no_set_scopes, no_sets);
      };
      bound = ap (λ bs. map bound_of bs ++ flat_map bindings_at (nodes_in spots)) none ∙ ap (λ es. flat_map bindings_at (nodes_in es)) is;
      listing =
          ap (λ rs. map resolved_of rs ++ flat_map (resolved_at root) (nodes_in spots)) no_references
          ∙ ap (λ es. flat_map (resolved_at root) (nodes_in es)) is;
    }

-- after one element, one less remains
one_less : (last n others : ℕ) → suc last - n ≡ suc others → others ≡ suc last - (n + 1)
one_less last n others is = omega (arith, is)

-- passing a token
pub found_token : (root : Located) (bindings : List Binding) (references : List Reference) (env : Environment) (remaining less : ℕ)
    (spots later : List Spot) (e : Located) → IsFound root bindings references env remaining spots → spots ≡ (false, e) ∷ later → less ≡ remaining - 1 →
    IsFound root bindings references env less later
found_token root bindings references env remaining less spots later e h is one =
    let first = taken root.tree h.number (suc (last_in root) - h.number) spots (false, e) later h.walk is in
    let none = token_alone root.tree h.number (sym (ap (λ (s : Spot). s.0) first.first)) in
    let nodes_are : nodes_in spots ≡ nodes_in later = ap nodes_in is in
    record {
      number = h.number + 1;
      inside = omega (arith, h.inside);
      count = omega (arith, one, h.count);
      walk =
          first.are ∙ ap (λ k. map (spot_at root.tree) (counted (h.number + 1) k)) (one_less (last_in root) h.number first.others first.one_more);
      nodes = h.nodes;
      are_open = past_token root h.number h.nodes none h.are_open;
      sees = record {
        has_scopes = (
          still_seen bindings env.symbols h.number (h.number + 1) (filter is_scope h.nodes) (omega arith) h.sees.has_scopes.0,
          h.sees.has_scopes.1,
        );
        has_bodies = h.sees.has_bodies;
        has_sets = h.sees.has_sets;
      };
      bound = ap (λ es. map bound_of bindings ++ flat_map bindings_at es) (sym nodes_are) ∙ h.bound;
      listing = ap (λ es. map resolved_of references ++ flat_map (resolved_at root) es) (sym nodes_are) ∙ h.listing;
    }

-- the references of a node are resolved as in the whole text
here_resolved : (root : Located) (bindings : List Binding) (later : List Bound) (env : Environment) (n : ℕ) (e : Located) (nodes : List Located) →
    map bound_of bindings ++ later ≡ lexical_bindings root → All (λ (b : Bound). n ≤ b.scope.number) later → IsBelow e nodes → around root e ≡ e ∷ nodes →
    IsEnvironment root bindings env n (filter is_scope (e ∷ nodes)) (filter is_with_body (e ∷ nodes)) (filter is_set (e ∷ nodes)) →
    map (resolve_at env e) (references_at e) ≡ resolved_at root e
here_resolved root bindings later env n e nodes bound high below around_is sees =
    map_alike (resolve_at env e) (resolved_among (lexical_bindings root) (around root e) e)
    (λ name. seen_resolved root bindings later (lexical_bindings root) env n e nodes name (sym bound) high
    (λ is. (inherit_no_scope e is, inherit_no_set e is)) below sees
    ∙ ap (λ around. resolved_among (lexical_bindings root) around e name) (sym around_is))
    (references_at e)

-- entering a node when the open nodes are those around it
found_entered : (root : Located) (bindings more : List Binding) (references others : List Reference) (env : Environment) (remaining n : ℕ)
    (later : List Spot) (e : Located) (nodes : List Located) → root.number ≤ n → remaining ≡ last_in root - n →
    later ≡ map (spot_at root.tree) (counted n (suc (last_in root) - n)) →
    HoldLater root n (e ∷ nodes) → IsBelow e nodes → around root e ≡ e ∷ nodes →
    IsEnvironment root more env n (filter is_scope (e ∷ nodes)) (filter is_with_body (e ∷ nodes)) (filter is_set (e ∷ nodes)) →
    map bound_of bindings ++ flat_map bindings_at (e ∷ nodes_in later) ≡ lexical_bindings root →
    map resolved_of references ++ flat_map (resolved_at root) (e ∷ nodes_in later) ≡ lexical_references root →
    map bound_of more ≡ map bound_of bindings ++ bindings_at e →
    map resolved_of others ≡ map resolved_of references ++ map (resolve_at env e) (references_at e) →
    IsFound root more others env remaining later
found_entered root bindings more references others env remaining n later e nodes inside count_is walk are_open below around_is sees so_far listed bound
    referred =
    let bound_is : map bound_of more ++ flat_map bindings_at (nodes_in later) ≡ lexical_bindings root =
    more_listed bindings_at (map bound_of bindings) (map bound_of more) (lexical_bindings root) e (nodes_in later) so_far bound in
    let high : All (λ (b : Bound). n ≤ b.scope.number) (flat_map bindings_at (nodes_in later)) =
    subst (λ spots. All (λ (b : Bound). n ≤ b.scope.number) (flat_map bindings_at (nodes_in spots))) (sym walk)
    (bound_later root.tree n (suc (last_in root) - n)) in
    record {
      number = n;
      inside = inside;
      count = count_is;
      walk = walk;
      nodes = e ∷ nodes;
      are_open = are_open;
      sees = sees;
      bound = bound_is;
      listing =
          more_listed (resolved_at root) (map resolved_of references) (map resolved_of others) (lexical_references root) e (nodes_in later) listed
          (referred ∙ ap (λ rs. map resolved_of references ++ rs)
          (here_resolved root more (flat_map bindings_at (nodes_in later)) env n e nodes bound_is high below around_is sees));
    }

-- leaving the nodes that have ended, and entering a node
pub found_node : (root : Located) (bindings same more : List Binding) (references others : List Reference) (env outer inner : Environment)
    (remaining less : ℕ) (spots later : List Spot) (e : Located) → IsFound root bindings references env remaining spots → spots ≡ (true, e) ∷ later →
    less ≡ remaining - 1 → same ≡ bindings → ((root : Located) → (n : ℕ) → (scopes bodies sets : List Located) →
    IsEnvironment root same env n scopes bodies sets →
    IsEnvironment root same outer n (still_open root remaining scopes) (still_open root remaining bodies) (still_open root remaining sets)) →
    ((root : Located) → (n : ℕ) → (scopes bodies sets : List Located) → n ≤ e.number → remaining ≡ last_in root - e.number →
    IsEnvironment root bindings outer n scopes bodies sets →
    IsEnvironment root more inner (e.number + 1) (if is_scope e then e ∷ scopes else scopes) (if is_with_body e then e ∷ bodies else bodies)
    (if is_set e then e ∷ sets else sets)) →
    map bound_of more ≡ map bound_of bindings ++ bindings_at e →
    map resolved_of others ≡ map resolved_of references ++ map (resolve_at inner e) (references_at e) →
    IsFound root more others inner less later
found_node root bindings same more references others env outer inner remaining less spots later e h is one same_is leaves enters bound referred =
    let first = taken root.tree h.number (suc (last_in root) - h.number) spots (true, e) later h.walk is in
    let there = node_there root.tree h.number (sym (ap (λ (s : Spot). s.0) first.first)) in
    let here : e ≡ record { tree = root.tree; number = h.number } = ap (λ (s : Spot). s.1) first.first in
    let number : e.number ≡ h.number = ap (λ (x : Located). x.number) here in
    let next : e.number + 1 ≡ h.number + 1 = ap (λ k. k + 1) number in
    let high : h.number ≤ last_in root = omega (arith, first.one_more) in
    let nodes : List Located = filter (reaches h.number) h.nodes in
    let around_here = around_is root h.number h.nodes h.inside h.are_open in
    let still : (p : Located → Bool) → still_open root remaining (filter p h.nodes) ≡ filter p nodes =
    λ p. still_open_is root remaining h.number h.count high p h.nodes h.are_open.nested in
    let remaining_open : IsEnvironment root bindings outer h.number (filter is_scope nodes) (filter is_with_body nodes) (filter is_set nodes) =
    subst (λ scopes. IsEnvironment root bindings outer h.number scopes (filter is_with_body nodes) (filter is_set nodes)) (still is_scope)
    (subst (λ bodies. IsEnvironment root bindings outer h.number (still_open root remaining (filter is_scope h.nodes)) bodies (filter is_set nodes))
    (still is_with_body)
    (subst (λ sets.
    IsEnvironment root bindings outer h.number (still_open root remaining (filter is_scope h.nodes))
    (still_open root remaining (filter is_with_body h.nodes)) sets)
    (still is_set)
    (subst (λ bs. IsEnvironment root bs env h.number (filter is_scope h.nodes) (filter is_with_body h.nodes) (filter is_set h.nodes) →
    IsEnvironment root bs outer h.number (still_open root remaining (filter is_scope h.nodes)) (still_open root remaining (filter is_with_body h.nodes))
    (still_open root remaining (filter is_set h.nodes))) same_is
    (leaves root h.number (filter is_scope h.nodes) (filter is_with_body h.nodes) (filter is_set h.nodes)) h.sees))) in
    let entered : IsEnvironment root more inner (e.number + 1) (filter is_scope (e ∷ nodes)) (filter is_with_body (e ∷ nodes)) (filter is_set (e ∷ nodes)) =
    enters root h.number (filter is_scope nodes) (filter is_with_body nodes) (filter is_set nodes) (omega (arith, number))
    (omega (arith, number, h.count)) remaining_open in
    let listed : nodes_in spots ≡ e ∷ nodes_in later = ap nodes_in is in
    found_entered root bindings more references others inner less (h.number + 1) later e nodes (omega (arith, h.inside)) (omega (arith, one, h.count))
    (first.are ∙ ap (λ k. map (spot_at root.tree) (counted (h.number + 1) k)) (one_less (last_in root) h.number first.others first.one_more))
    (subst (λ x. HoldLater root (h.number + 1) (x ∷ nodes)) (sym here) (past_node root h.number h.nodes h.inside h.are_open there))
    (subst (λ x. IsBelow x nodes) (sym here)
    (subst (λ xs. IsBelow (record { tree = root.tree; number = h.number }) (drop 1 xs)) around_here
    (parent_around root root.tree h.number there h.inside)))
    (subst (λ x. around root x ≡ x ∷ nodes) (sym here) around_here)
    (subst (λ n. IsEnvironment root more inner n (filter is_scope (e ∷ nodes)) (filter is_with_body (e ∷ nodes)) (filter is_set (e ∷ nodes))) next entered)
    (ap (λ es. map bound_of bindings ++ flat_map bindings_at es) (sym listed) ∙ h.bound)
    (ap (λ es. map resolved_of references ++ flat_map (resolved_at root) es) (sym listed) ∙ h.listing) bound referred

-- equal bindings, references and environments have been found, too
pub found_same : (root : Located) (bindings others : List Binding) (references alike : List Reference) (env same : Environment) (remaining : ℕ)
    (spots : List Spot) → others ≡ bindings → alike ≡ references → same ≡ env → IsFound root bindings references env remaining spots →
    IsFound root others alike same remaining spots
found_same root bindings others references alike env same remaining spots bindings_are references_are env_is h =
    subst (λ bs. IsFound root bs alike same remaining spots) (sym bindings_are)
    (subst (λ rs. IsFound root bindings rs same remaining spots) (sym references_are)
    (subst (λ around. IsFound root bindings references around remaining spots) (sym env_is) h))

-- the name of a resolved reference
abbrev pub name_in : Resolved → Named
name_in r = record { text = r.text; node = r.node }

-- the names of the resolved references are the references of the text, whatever each refers to
pub names_resolved : (root : Located) (refer : Located → Named → Resolved) → ((e : Located) (name : Named) → name_in (refer e name) ≡ name) →
    (references : List Reference) → map resolved_of references ≡ flat_map (λ e. map (refer e) (references_at e)) (nodes_in (elements_of root)) →
    map name_of references ≡ references_in root
names_resolved root refer same references is =
    names_again references ∙ ap (map name_in) is ∙ names_of_all (nodes_in (elements_of root))
  where
    names_again : (rs : List Reference) → map name_of rs ≡ map name_in (map resolved_of rs)
    names_again [] = refl
    names_again (r ∷ rs) = ap (λ ns. name_of r ∷ ns) (names_again rs)

    names_at : (e : Located) (names : List Named) → map name_in (map (refer e) names) ≡ names
    names_at e [] = refl
    names_at e (name ∷ names) = ap (λ n. n ∷ map name_in (map (refer e) names)) (same e name) ∙ ap (λ ns. name ∷ ns) (names_at e names)

    names_of_all : (es : List Located) → map name_in (flat_map (λ e. map (refer e) (references_at e)) es) ≡ flat_map references_at es
    names_of_all [] = refl
    names_of_all (e ∷ es) =
        map-append name_in (map (refer e) (references_at e)) (flat_map (λ x. map (refer x) (references_at x)) es)
        ∙ ap (λ ns. ns ++ map name_in (flat_map (λ x. map (refer x) (references_at x)) es)) (names_at e (references_at e))
        ∙ ap (λ ns. references_at e ++ ns) (names_of_all es)
