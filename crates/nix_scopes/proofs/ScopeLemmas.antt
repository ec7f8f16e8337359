-- What is known about the names in scope while a text is resolved.
use Rattle.std.proofs.Common.{◌≡◌, ℕ, ◌+◌, ◌-◌, ◌<◌, ◌≤◌, List, [], ◌∷◌, ◌++◌, length, map, Option, Some, None, refl, ap, sym, ◌∙◌, subst, arith, inl, inr}
use Rattle.std.proofs.{Common.append_assoc, lemmas.List.{length-map, map-append, map_more, map_push, length_push, Elements.{All-append, All-weaker, All-push}}}
use Rattle.std.{proofs.lemmas.{List.{same_from_push, Elements.{All-cons, All-tail}}, Bool.{cond-true, cond-false, le-leb, lt-leb, false≢true}}, proofs.Common.get_or}
use Rattle.std.specs.{Cow.cow_str_bytes, Prelude.{nat_le, slice_get, option_map, take, is_some, IsSome, if◌then◌else◌}, List.All, Option.option_or, Str.bytes_eq}
use Rattle.{std.proofs.lemmas.{Slice.Eq.bytes_eq-Decides}, rnix_green.specs.Tree.Located, nix_scopes.specs.declared.resolution.Binding.Binding}
use Rattle.nix_scopes.specs.{declared.symbols.{Scope.Scope, SymbolTable.SymbolTable}, Bound.{bound_of, IsFirstOf, AreFirst}, Scopes.{Bound, number_in, innermost}}
use Rattle.nix_scopes.specs.Resolving.{number_by, shadowed_by, outside_of, IsLonger, IsOpen, IsBinding, IsShadowed, IsRestored, AreOpen, IsSymbolTable, first_of, outer_by}
use Rattle.nix_scopes.specs.Resolving.{outer_number, Numbers, own_of}
use Rattle.nix_scopes.proofs.{NumberLemmas.{number_binds, number_stays, number_there, get_last}, SymbolTableLemmas.{innermost_low, innermost_kept, all_kept, binding_begun, binding_more, number_own}}

-- mapping one more element twice
pub mapped_more : {X Y Z : Type 0} (g : X → Y) (f : Y → Z) (xs : List X) (i : ℕ) (x : X) (old bs more : List Z) → i < length xs → x ≡ get_or xs i x →
    bs ≡ old ++ map f (map g (take i xs)) → more ≡ bs ++ f (g x) ∷ [] → more ≡ old ++ map f (map g (take (i + 1) xs))
mapped_more g f xs i x old bs more l at is added =
    added ∙ ap (λ ys. ys ++ f (g x) ∷ []) is ∙ append_assoc old (map f (map g (take i xs))) (f (g x) ∷ [])
    ∙ ap (λ ys. old ++ ys)
    (sym (ap (map f) (map_more g xs i x l) ∙ map_push f (map g (take i xs)) (g (get_or xs i x))
    ∙ ap (λ y. map f (map g (take i xs)) ++ f (g y) ∷ []) (sym at)))

-- a scope binds one more name
pub names_more : (outer : List ℕ → Option ℕ) (bindings more : List Binding) (old new : Numbers) (shadowed shown : List (Option ℕ))
    (first number own : ℕ) (was hid : Option ℕ) (scope : Located) (b : Bound) → b.scope.number ≡ scope.number →
    map bound_of more ≡ map bound_of bindings ++ b ∷ [] → number ≡ length bindings → was ≡ number_by old b.text →
    own ≡ own_of (number_by old b.text) first number →
    hid ≡ outside_of was first shadowed → shown ≡ shadowed ++ hid ∷ [] →
    ((text : List ℕ) → number_by new text ≡ (if bytes_eq b.text text then Some own else number_by old text)) →
    IsBinding outer (map bound_of bindings) old shadowed first scope →
    IsBinding outer (map bound_of more) new shown first scope × (number_in (map bound_of more) b.text scope ≡ Some own)
names_more outer bindings more old new shadowed shown first number own was hid scope b same is count was_is own_is hid_is pushed added h =
    let bs : List Bound = map bound_of bindings in
    let given : own ≡ own_of (number_by old b.text) first (length bs) =
    own_is ∙ ap (own_of (number_by old b.text) first) (count ∙ sym (length-map bindings bound_of)) in
    let shadows : shadowed ++ outside_of (number_by old b.text) first shadowed ∷ [] ≡ shown =
    ap (λ o. shadowed ++ o ∷ []) (sym (hid_is ∙ ap (λ o. outside_of o first shadowed) was_is)) ∙ sym pushed in (
      subst (λ hs. IsBinding outer (map bound_of more) new hs first scope) shadows
          (subst (λ all. IsBinding outer all new (shadowed ++ outside_of (number_by old b.text) first shadowed ∷ []) first scope) (sym is)
          (binding_more outer bs old new shadowed first scope b same h own given added)),
      ap (λ all. number_in all b.text scope) is ∙ number_own outer bs old new shadowed first scope b same h own given,
    )

-- each binding has the number of the first one of its name
pub firsts_more : (bindings more : List Binding) (b : Binding) → more ≡ bindings ++ b ∷ [] →
    number_in (map bound_of more) (cow_str_bytes b.text) b.scope ≡ Some b.first → AreFirst bindings → AreFirst more
firsts_more bindings more b is found firsts =
    subst (All (IsFirstOf more)) (sym is)
    (All-push (IsFirstOf more) bindings b (All-weaker (IsFirstOf bindings) (IsFirstOf more) stays bindings firsts) found)
  where
    stays : (x : Binding) → IsFirstOf bindings x → IsFirstOf more x
    stays x first =
        ap (λ bs. number_in (map bound_of bs) (cow_str_bytes x.text) x.scope) is
        ∙ ap (λ bs. number_in bs (cow_str_bytes x.text) x.scope) (map-append bound_of bindings (b ∷ []))
        ∙ number_stays (map bound_of bindings) (map bound_of (b ∷ [])) (cow_str_bytes x.text) x.scope x.first first

-- at the beginning no name is in scope
pub seen_begun : (bindings : List Binding) (symbols : SymbolTable) (n : ℕ) → bindings ≡ [] → ((text : List ℕ) → number_by symbols.numbers text ≡ None) →
    symbols.shadowed.items ≡ [] → symbols.scopes.items ≡ [] → IsSymbolTable bindings symbols n []
seen_begun bindings symbols n none no_numbers no_hidden no_scopes = record {
  behind = subst (λ bs. All (λ (b : Bound). b.scope.number < n) (map bound_of bs)) (sym none) (λ k d l. absurd (omega (arith, l)));
  around = λ k d l. absurd (omega (arith, l));
  count = ap length no_hidden ∙ sym (ap length none);
  names_in_scope = no_numbers;
  are_open = no_scopes;
  firsts = subst AreFirst (sym none) (λ k d l. absurd (omega (arith, l)));
}

-- a scope that is entered has bound nothing yet
pub seen_binding : (bindings : List Binding) (symbols : SymbolTable) (n : ℕ) (scope : Located) (scopes : List Located) → n ≤ scope.number →
    IsSymbolTable bindings symbols n scopes →
    IsBinding (λ text. innermost (map bound_of bindings) text scopes) (map bound_of bindings) symbols.numbers symbols.shadowed.items (length bindings) scope
seen_binding bindings symbols n scope scopes l h =
    let count : length (map bound_of bindings) ≡ length bindings = length-map bindings bound_of in
    subst
    (λ first. IsBinding (λ text. innermost (map bound_of bindings) text scopes) (map bound_of bindings) symbols.numbers
    symbols.shadowed.items first scope) count
    (binding_begun (λ text. innermost (map bound_of bindings) text scopes) (map bound_of bindings) symbols.numbers symbols.shadowed.items scope
    (λ k d i. omega (arith, h.behind k d i, l)) h.names_in_scope (λ text m is. innermost_low (map bound_of bindings) text scopes m is) (h.count ∙ sym count))

-- an open scope stays open if names have the same numbers outside it
open_same : (outer others : List ℕ → Option ℕ) (bindings : List Bound) (shadowed : List (Option ℕ)) (first end : ℕ) (scope : Located) →
    ((text : List ℕ) → others text ≡ outer text) → IsOpen outer bindings shadowed first end scope → IsOpen others bindings shadowed first end scope
open_same outer others bindings shadowed first end scope same h = record {
  bounds = h.bounds;
  before = λ text n is. h.before text n (sym (same text) ∙ is);
  inside = h.inside;
  own = h.own;
  shadows = λ n b low high at. h.shadows n b low high at ∙ sym (same b.text);
}

-- entering a scope binds its names
pub scope_entered : (bindings more : List Binding) (names : List Bound) (old new : SymbolTable) (own : Scope) (n : ℕ) (scope : Located)
    (scopes : List Located) → n ≤ scope.number → map bound_of more ≡ map bound_of bindings ++ names → All (λ (b : Bound). b.scope.number ≡ scope.number) names →
    new.scopes.items ≡ old.scopes.items ++ own ∷ [] → own.first ≡ length bindings → own.end ≡ length more → IsLonger old.shadowed.items new.shadowed.items →
    ((outer : List ℕ → Option ℕ) → IsBinding outer (map bound_of bindings) old.numbers old.shadowed.items (length bindings) scope →
    IsBinding outer (map bound_of more) new.numbers new.shadowed.items (length bindings) scope) →
    ((outer : List ℕ → Option ℕ) → IsBinding outer (map bound_of bindings) old.numbers old.shadowed.items (length bindings) scope →
    AreFirst bindings → AreFirst more) →
    IsSymbolTable bindings old n scopes → IsSymbolTable more new (scope.number + 1) (scope ∷ scopes)
scope_entered bindings more names old new own n scope scopes l is owned pushed first end longer binding firsts h =
    let outer : List ℕ → Option ℕ = λ text. innermost (map bound_of bindings) text scopes in
    let begun = seen_binding bindings old n scope scopes l h in
    let bound = binding outer begun in
    let later : All (λ (b : Bound). n ≤ b.scope.number) names = λ k d i. omega (arith, owned k d i, l) in
    let same : (text : List ℕ) → innermost (map bound_of more) text scopes ≡ outer text =
    λ text. ap (λ bs. innermost bs text scopes) is ∙ innermost_kept (map bound_of bindings) names text n scopes h.around later in
    let count : length (map bound_of more) ≡ length more = length-map more bound_of in
    record {
      behind =
          subst (All (λ (b : Bound). b.scope.number < scope.number + 1)) (sym is)
          (All-append (λ (b : Bound). b.scope.number < scope.number + 1) (map bound_of bindings) names (λ k d i. omega (arith, h.behind k d i, l))
          (λ k d i. omega (arith, owned k d i)));
      around =
          All-cons (λ (e : Located). e.number < scope.number + 1) scope scopes (omega arith) (λ k d i. omega (arith, h.around k d i, l));
      count = bound.count ∙ count;
      names_in_scope = λ text. bound.names_in_scope text ∙ ap (option_or (number_in (map bound_of more) text scope)) (sym (same text));
      are_open = (
        own,
        old.scopes.items,
        pushed,
        open_same outer (λ text. innermost (map bound_of more) text scopes) (map bound_of more) new.shadowed.items own.first own.end scope same
            (subst (λ a. IsOpen outer (map bound_of more) new.shadowed.items a own.end scope) (sym first)
            (subst (λ a. IsOpen outer (map bound_of more) new.shadowed.items (length bindings) a scope) (count ∙ sym end) bound.is_open)),
        subst (λ bs. AreOpen bs new.shadowed.items old.scopes.items scopes) (sym is)
            (all_kept (map bound_of bindings) names old.shadowed.items new.shadowed.items n old.scopes.items scopes h.around later longer h.are_open),
      );
      firsts = firsts outer begun h.firsts;
    }

-- entering a node that is not a scope changes nothing
pub still_seen : (bindings : List Binding) (symbols : SymbolTable) (n m : ℕ) (scopes : List Located) → n ≤ m → IsSymbolTable bindings symbols n scopes →
    IsSymbolTable bindings symbols m scopes
still_seen bindings symbols n m scopes l h = record {
  behind = λ k d i. omega (arith, h.behind k d i, l);
  around = λ k d i. omega (arith, h.around k d i, l);
  count = h.count;
  names_in_scope = h.names_in_scope;
  are_open = h.are_open;
  firsts = h.firsts;
}

-- leaving a scope
pub scope_remaining : (bindings : List Binding) (old new : SymbolTable) (own : Scope) (n : ℕ) (scope : Located) (outer : List Located) →
    old.scopes.items ≡ new.scopes.items ++ own ∷ [] → new.shadowed.items ≡ old.shadowed.items →
    ((out : List ℕ → Option ℕ) → IsShadowed out (map bound_of bindings) old.numbers old.shadowed.items own → (text : List ℕ) →
    IsRestored out (map bound_of bindings) own.first own.end old.numbers new.numbers text) →
    IsSymbolTable bindings old n (scope ∷ outer) → IsSymbolTable bindings new n outer
scope_remaining bindings old new own n scope outer popped same_hidden shown h =
    let bs : List Bound = map bound_of bindings in
    let same = same_from_push new.scopes.items h.are_open.1 own h.are_open.0 (sym popped ∙ h.are_open.2) in
    let opened : IsOpen (λ text. innermost bs text outer) bs old.shadowed.items own.first own.end scope =
    subst (λ (o : Scope). IsOpen (λ text. innermost bs text outer) bs old.shadowed.items o.first o.end scope) (sym same.1) h.are_open.3 in
    let shadowed : IsShadowed (λ text. innermost bs text outer) bs old.numbers old.shadowed.items own = record {
      shadows = opened.shadows;
      names_in_scope = λ m b low high at.
          ap is_some (h.names_in_scope b.text)
          ∙ some_or (number_in bs b.text scope) (innermost bs b.text outer) (number_there bs scope m b at (opened.own m b low high at));
    } in
    record {
      behind = h.behind;
      around = All-tail (λ (e : Located). e.number < n) scope outer h.around;
      count = ap length same_hidden ∙ h.count;
      names_in_scope = λ text. again text (shown (λ text. innermost bs text outer) shadowed text) (number_in bs text scope) refl opened;
      are_open =
          subst (λ hs. AreOpen bs hs new.scopes.items outer) (sym same_hidden)
          (subst (λ owns. AreOpen bs old.shadowed.items owns outer) (sym same.0) h.are_open.4);
      firsts = h.firsts;
    }
  where
    some_or : (o p : Option ℕ) → IsSome o → IsSome (option_or o p)
    some_or None p e = absurd (false≢true e)
    some_or (Some m) p e = refl

    again : (text : List ℕ) →
        IsRestored (λ text. innermost (map bound_of bindings) text outer) (map bound_of bindings) own.first own.end old.numbers new.numbers text →
        (o : Option ℕ) → number_in (map bound_of bindings) text scope ≡ o →
        IsOpen (λ text. innermost (map bound_of bindings) text outer) (map bound_of bindings) old.shadowed.items own.first own.end scope →
        number_by new.numbers text ≡ innermost (map bound_of bindings) text outer
    again text (inl e) o is opened = e
    again text (inr e) None is opened =
        e.0 ∙ h.names_in_scope text ∙ ap (λ o. option_or o (innermost (map bound_of bindings) text outer)) is
    again text (inr e) (Some m) is opened =
        let found = number_binds (map bound_of bindings) text scope m is in
        let inside = opened.inside text m is in
        absurd (false≢true (sym (e.1 m found.binding inside.0 inside.1 found.at) ∙ found.named))

-- if a scope is open, the list of scopes is not empty
pub none_remaining : (bindings : List Binding) (old new : SymbolTable) (n : ℕ) (scope : Located) (outer : List Located) → old.scopes.items ≡ [] →
    IsSymbolTable bindings old n (scope ∷ outer) → IsSymbolTable bindings new n outer
none_remaining bindings old new n scope outer none h =
    absurd (omega (arith, ap length none, ap length h.are_open.2, length_push h.are_open.1 h.are_open.0))

-- the number of a name outside the innermost scope
pub outer_found : (bindings : List Binding) (symbols : SymbolTable) (n : ℕ) (scope : Located) (outer : List Located) (text : List ℕ) →
    IsSymbolTable bindings symbols n (scope ∷ outer) → outer_number symbols text ≡ innermost (map bound_of bindings) text outer
outer_found bindings symbols n scope outer text h =
    let owns : first_of symbols.scopes.items ≡ Some h.are_open.0.first =
    ap first_of h.are_open.2
    ∙ ap (λ k. option_map (λ (own : Scope). own.first) (slice_get (h.are_open.1 ++ h.are_open.0 ∷ []) k)) (last h.are_open.1 h.are_open.0)
    ∙ ap (option_map (λ (own : Scope). own.first)) (get_last h.are_open.1 h.are_open.0) in
    ap (λ first. outer_by first (number_by symbols.numbers text) symbols.shadowed.items) owns
    ∙ ap (λ o. outside_of o h.are_open.0.first symbols.shadowed.items) (h.names_in_scope text)
    ∙ chosen (number_in (map bound_of bindings) text scope) refl (innermost (map bound_of bindings) text outer) refl
  where
    last : (xs : List Scope) (x : Scope) → length (xs ++ x ∷ []) - 1 ≡ length xs
    last xs x = omega (arith, length_push xs x)

    chosen : (o : Option ℕ) → number_in (map bound_of bindings) text scope ≡ o → (p : Option ℕ) → innermost (map bound_of bindings) text outer ≡ p →
        outside_of (option_or o (innermost (map bound_of bindings) text outer)) h.are_open.0.first symbols.shadowed.items
        ≡ innermost (map bound_of bindings) text outer
    chosen (Some m) is p out =
        let inside = h.are_open.3.inside text m is in
        let found = number_binds (map bound_of bindings) text scope m is in
        cond-true (nat_le h.are_open.0.first m) (shadowed_by symbols.shadowed.items m) (Some m) (le-leb h.are_open.0.first m inside.0)
        ∙ h.are_open.3.shadows m found.binding inside.0 inside.1 found.at
        ∙ ap (λ t. innermost (map bound_of bindings) t outer) ((bytes_eq-Decides found.binding.text text).0 found.named)
    chosen None is None out = ap (λ o. outside_of o h.are_open.0.first symbols.shadowed.items) out ∙ sym out
    chosen None is (Some m) out =
        ap (λ o. outside_of o h.are_open.0.first symbols.shadowed.items) out
        ∙ cond-false (nat_le h.are_open.0.first m) (shadowed_by symbols.shadowed.items m) (Some m)
        (lt-leb h.are_open.0.first m (h.are_open.3.before text m out))
        ∙ sym out
