-- What the names refer to at the current node of a walk is what they refer to in the whole text.
use Rattle.std.proofs.Common.{◌≡◌, ℕ, zero, suc, ◌+◌, ◌-◌, ◌≤◌, ◌<◌, List, [], ◌∷◌, ◌++◌, length, drop, map, get_or, Bool, true, false, None, refl, ap, sym, ◌∙◌, subst, arith, ◌==◌}
use Rattle.std.{proofs.lemmas.{List.{length_push, Elements.{All-append, All-map, All-tail}}, Bool.cond-false}, specs.Prelude.{cond, filter, not, ◌||◌, ◌&&◌, is_some, flat_map}}
use Rattle.{std.specs.{Prelude.if◌then◌else◌, List.{All, list_any}}, rnix_green.{proofs.NumberTests.is_above, specs.Tree.{Tree, Located, item, item_of}}}
use Rattle.{rnix_green.specs.Walk.{spot_at, counted, nodes_in}, rnix_base.specs.Select.token_of}
use Rattle.{rnix_green.specs.{Equality.same_kind, Relatives.parent_of}, nix_scopes.specs.{Names.Named, Binders.{is_scope, is_binder, names_bound}, Bound.bound_of}}
use Rattle.nix_scopes.specs.{declared.{resolution.Binding.Binding, symbols.SymbolTable.SymbolTable, environment.Environment.Environment}}
use Rattle.nix_scopes.specs.Resolving.{IsSymbolTable, IsEnvironment, number_by, is_in_scope, first_of, outer_by, number_in_scope, is_from_outside, resolve_at, is_set, which_are_scopes, is_scope_around}
use Rattle.nix_scopes.specs.Scopes.{Bound, is_with_body, resolved, bound_in, bindings_at, innermost, resolved_among}
use Rattle.nix_scopes.proofs.{OpenLemmas.{IsBelow, counts_length}, SymbolTableLemmas.innermost_kept, ScopeLemmas.outer_found}
use Rattle.rnix_kinds.specs.declared.kinds.SyntaxKind.TheVariants as k

-- some element passes exactly if the number of elements that pass is not 0
pub any_counted : {X : Type 0} (p : X → Bool) (xs : List X) → not (length (filter p xs) == 0) ≡ list_any p xs
any_counted p [] = refl
any_counted p (x ∷ xs) = chosen (p x) (any_counted p xs)
  where
    chosen : (b : Bool) → not (length (filter p xs) == 0) ≡ list_any p xs → not (length (cond b (x ∷ filter p xs) (filter p xs)) == 0) ≡ (b || list_any p xs)
    chosen true e = ap not (is_above (suc (length (filter p xs))) 0 (omega arith))
    chosen false e = e

-- the bindings of a node have the node as their scope
pub own_scope : (e : Located) → All (λ (b : Bound). b.scope.number ≡ e.number) (bindings_at e)
own_scope e = chosen (is_scope e)
  where
    chosen : (b : Bool) → All (λ (b : Bound). b.scope.number ≡ e.number) (if b then map (bound_in e) (names_bound e) else [])
    chosen true = All-map (λ (b : Bound). b.scope.number ≡ e.number) (bound_in e) (names_bound e) (λ k d l. refl)
    chosen false = λ k d l. absurd (omega (arith, l))

-- the bindings of the elements from n on have scopes from n on
pub bound_later : (t : Tree) (n count : ℕ) →
    All (λ (b : Bound). n ≤ b.scope.number) (flat_map bindings_at (nodes_in (map (spot_at t) (counted n count))))
bound_later t n zero = λ k d l. absurd (omega (arith, l))
bound_later t n (suc count) = chosen (item t n).is_node (λ k d l. omega (arith, bound_later t (n + 1) count k d l))
  where
    others : List Located
    others = nodes_in (map (spot_at t) (counted (n + 1) count))

    chosen : (b : Bool) → All (λ (b : Bound). n ≤ b.scope.number) (flat_map bindings_at others) →
        All (λ (b : Bound). n ≤ b.scope.number) (flat_map bindings_at (if b then record { tree = t; number = n } ∷ others else others))
    chosen true later =
        All-append (λ (b : Bound). n ≤ b.scope.number) (bindings_at record { tree = t; number = n }) (flat_map bindings_at others)
        (λ k d l. omega (arith, own_scope (record { tree = t; number = n }) k d l)) later
    chosen false later = later

-- the last element of a list is the added one
last_added : (bs : List Bool) (b d : Bool) → get_or (bs ++ b ∷ []) (length bs) d ≡ b
last_added [] b d = refl
last_added (x ∷ bs) b d = last_added bs b d

-- the last flag says whether the innermost of these attribute sets is a scope
last_scope : (e : Located) (es : List Located) →
    get_or (which_are_scopes (e ∷ es)) (length (which_are_scopes (e ∷ es)) - 1) false ≡ is_scope e
last_scope e es =
    let last : length (which_are_scopes es ++ is_scope e ∷ []) - 1 ≡ length (which_are_scopes es) =
    omega (arith, length_push (which_are_scopes es) (is_scope e)) in
    ap (λ k. get_or (which_are_scopes es ++ is_scope e ∷ []) k false) last ∙ last_added (which_are_scopes es) (is_scope e) false

or_false : (b : Bool) → (b || false) ≡ b
or_false true = refl
or_false false = refl

-- the flags of the open sets determine whether the parent is a scope
parent_is_scope : (are_scopes : List Bool) (parent : Located) (outer : List Located) → are_scopes ≡ which_are_scopes (filter is_set (parent ∷ outer)) →
    is_scope_around are_scopes parent ≡ is_scope parent
parent_is_scope are_scopes parent outer are = ap (λ bs. is_scope_around bs parent) are ∙ chosen (is_set parent) refl
  where
    flag : Bool → List Bool → Bool
    flag b bs = if b then get_or bs (length bs - 1) false else is_binder (item_of parent).kind

    chosen : (b : Bool) → is_set parent ≡ b →
        flag b (which_are_scopes (cond b (parent ∷ filter is_set outer) (filter is_set outer))) ≡ is_scope parent
    chosen true is = last_scope parent (filter is_set outer)
    chosen false is =
        sym (ap (λ b. is_binder (item_of parent).kind || (b && is_some (token_of (same_kind k.TOKEN_REC) parent))) is
        ∙ or_false (is_binder (item_of parent).kind))

module _ (bindings : List Binding) (more all : List Bound) (symbols : SymbolTable) (n : ℕ) (e : Located) (text : List ℕ)
    (is : all ≡ map bound_of bindings ++ more) (later : All (λ (b : Bound). n ≤ b.scope.number) more) where
  -- the innermost binding among those found so far is the innermost among all bindings
  in_all : (scopes : List Located) → All (λ (scope : Located). scope.number < n) scopes →
      innermost (map bound_of bindings) text scopes ≡ innermost all text scopes
  in_all scopes below = sym (ap (λ bs. innermost bs text scopes) is ∙ innermost_kept (map bound_of bindings) more text n scopes below later)

  -- looking up a name in all scopes finds its innermost binding
  found_in_scopes : (scopes : List Located) → IsSymbolTable bindings symbols n scopes → number_by symbols.numbers text ≡ innermost all text scopes
  found_in_scopes scopes h = h.names_in_scope text ∙ in_all scopes h.around

  -- looking up a name outside the parent, if that is a scope, finds the innermost binding there
  found_outside : (b : Bool) (parent : Located) (outer : List Located) → IsSymbolTable bindings symbols n (cond b (parent ∷ outer) outer) →
      number_in_scope symbols b text ≡ innermost all text outer
  found_outside true parent outer h =
      outer_found bindings symbols n parent outer text h ∙ in_all outer (All-tail (λ (scope : Located). scope.number < n) parent outer h.around)
  found_outside false parent outer h = found_in_scopes outer h

  -- if no scope is open, nothing is found
  found_none : (b : Bool) → IsSymbolTable bindings symbols n [] → number_in_scope symbols b text ≡ None
  found_none true h = ap (λ owns. outer_by (first_of owns) (number_by symbols.numbers text) symbols.shadowed.items) h.are_open ∙ h.names_in_scope text
  found_none false h = h.names_in_scope text

  -- the names of an `inherit` are looked up outside its set or `let`
  found_inherited : (env : Environment) (around : List Located) → IsBelow e around →
      env.set_scopes.items ≡ which_are_scopes (filter is_set around) → IsSymbolTable bindings symbols n (filter is_scope around) →
      number_in_scope symbols (is_in_scope env (parent_of e)) text ≡ innermost all text (filter is_scope (drop 1 around))
  found_inherited env [] below sets h = found_none (is_in_scope env (parent_of e)) h
  found_inherited env (parent ∷ outer) below sets h =
      ap (λ o. number_in_scope symbols (is_in_scope env o) text) below
      ∙ ap (λ b. number_in_scope symbols b text) (parent_is_scope env.set_scopes.items parent outer sets)
      ∙ found_outside (is_scope parent) parent (filter is_scope outer) h

  -- the names of a node, be it a name or an `inherit`, are looked up in the right scopes
  found_at_node : (env : Environment) (nodes : List Located) (b : Bool) → (b ≡ true → (is_scope e ≡ false) × (is_set e ≡ false)) →
      IsBelow e nodes → env.set_scopes.items ≡ which_are_scopes (filter is_set (e ∷ nodes)) → IsSymbolTable bindings symbols n (filter is_scope (e ∷ nodes)) →
      number_in_scope symbols (if b then is_in_scope env (parent_of e) else false) text
      ≡ innermost all text (filter is_scope (drop (if b then 2 else 0) (e ∷ nodes)))
  found_at_node env nodes true none below sets h =
      found_inherited env nodes below
      (sets ∙ ap which_are_scopes (cond-false (is_set e) (e ∷ filter is_set nodes) (filter is_set nodes) (none refl).1))
      (subst (IsSymbolTable bindings symbols n) (cond-false (is_scope e) (e ∷ filter is_scope nodes) (filter is_scope nodes) (none refl).0) h)
  found_at_node env nodes false none below sets h = found_in_scopes (filter is_scope (e ∷ nodes)) h

-- a reference of the current node refers to the same binding as in the whole text
pub seen_resolved : (root : Located) (bindings : List Binding) (more all : List Bound) (around : Environment) (n : ℕ) (e : Located)
    (nodes : List Located) (name : Named) → all ≡ map bound_of bindings ++ more → All (λ (b : Bound). n ≤ b.scope.number) more →
    (same_kind k.NODE_INHERIT (item_of e).kind ≡ true → (is_scope e ≡ false) × (is_set e ≡ false)) → IsBelow e nodes →
    IsEnvironment root bindings around n (filter is_scope (e ∷ nodes)) (filter is_with_body (e ∷ nodes)) (filter is_set (e ∷ nodes)) →
    resolve_at around e name ≡ resolved_among all (e ∷ nodes) e name
seen_resolved root bindings more all around n e nodes name is later none below h =
    let count : length around.body_ends.items ≡ length (filter is_with_body (e ∷ nodes)) =
    ap length h.has_bodies ∙ counts_length root (filter is_with_body (e ∷ nodes)) in
    ap (λ below_with. resolved (same_kind k.NODE_INHERIT (item_of e).kind) below_with
    (number_in_scope around.symbols (is_from_outside around e) name.text) name)
    (ap (λ k. not (k == 0)) count ∙ any_counted is_with_body (e ∷ nodes))
    ∙ ap (λ binding. resolved (same_kind k.NODE_INHERIT (item_of e).kind) (list_any is_with_body (e ∷ nodes)) binding name)
    (found_at_node bindings more all around.symbols n e name.text is later around nodes (same_kind k.NODE_INHERIT (item_of e).kind) none below
    h.has_sets.0 h.has_scopes.0)
