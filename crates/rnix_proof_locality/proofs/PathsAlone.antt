-- If the pieces of all paths of a forest touch before some items, they touch before fewer.
use Rattle.std.proofs.{Common.{◌≡◌, ℕ, Bool, true, false, List, [], ◌∷◌, ◌++◌, refl, sym, subst, append_assoc, if◌then◌else◌, nat_eq}, lemmas.Bool.and_parts}
use Rattle.{std.proofs.lemmas.Bool.and_from, rnix_grammar.specs.AnnotatedForest.{Token, AnnotatedForest, blank, token, branch, fault, tokens_in, forget}}
use Rattle.rnix_grammar.specs.{AnnotatedForest.end_from, PathPieces.{goes_on_path, joins, joins_first, is_joined, is_path, ArePaths}}
use Rattle.{rnix_proof_lemmas.proofs.Basics.true_is_not_false, rnix_proof_locality.proofs.StrictExpressions.{nodes_begin, AreStrict}}

-- no item continues a path if fewer items follow
stops_before : (n : ℕ) (us vs : List Token) → (if goes_on_path n (us ++ vs) then false else true) ≡ true → (if goes_on_path n us then false else true) ≡ true
stops_before n [] vs h = refl
stops_before n (u ∷ us) vs h = h

joins_before : (n : ℕ) (f : AnnotatedForest) (us vs : List Token) → nodes_begin (forget f) ≡ true → joins n f (us ++ vs) ≡ true → joins n f us ≡ true
joins_before n blank us vs b h = stops_before n us vs h
joins_before n (token k t f) us vs b h =
    let w = and_parts (nat_eq t.start n) (joins t.end f (us ++ vs)) h in
    and_from (nat_eq t.start n) (joins t.end f us) w.0 (joins_before t.end f us vs b w.1)
joins_before n (branch k (token j t c) f) us vs b h =
    let m : ℕ = end_from t.end (tokens_in c) in
    let w = and_parts (nat_eq t.start n) (joins m f (us ++ vs)) h in
    and_from (nat_eq t.start n) (joins m f us) w.0 (joins_before m f us vs b w.1)
joins_before n (branch k blank f) us vs b h = absurd (true_is_not_false (sym b))
joins_before n (branch k (branch j c d) f) us vs b h = absurd (true_is_not_false (sym b))
joins_before n (branch k (fault j c d) f) us vs b h = absurd (true_is_not_false (sym b))
joins_before n (fault m c f) us vs b h = absurd (true_is_not_false (sym h))

first_before : (n : ℕ) (f : AnnotatedForest) (us vs : List Token) → nodes_begin (forget f) ≡ true → joins_first n f (us ++ vs) ≡ true
    → joins_first n f us ≡ true
first_before n blank us vs b h = refl
first_before n (token k t f) us vs b h = joins_before n (token k t f) us vs b h
first_before n (branch k c f) us vs b h = joins_before n (branch k c f) us vs b h
first_before n (fault m c f) us vs b h = joins_before n (fault m c f) us vs b h

joined_before : (c : AnnotatedForest) (us vs : List Token) → nodes_begin (forget c) ≡ true → is_joined c (us ++ vs) ≡ true → is_joined c us ≡ true
joined_before blank us vs b h = refl
joined_before (token k t f) us vs b h = first_before t.end f us vs b h
joined_before (branch k c f) us vs b h = refl
joined_before (fault n c f) us vs b h = refl

-- this holds for a node, whether it is a path or not
pub path_before : (w : Bool) (c : AnnotatedForest) (us vs : List Token) → (if w then nodes_begin (forget c) else true) ≡ true
    → (if w then is_joined c (us ++ vs) else true) ≡ true → (if w then is_joined c us else true) ≡ true
path_before true c us vs b h = joined_before c us vs b h
path_before false c us vs b h = refl

-- this holds for all paths of a forest
pub paths_before : (f : AnnotatedForest) (us vs : List Token) → AreStrict (forget f) → ArePaths f (us ++ vs) → ArePaths f us
paths_before blank us vs s h = tt
paths_before (token k t f) us vs s h = paths_before f us vs s h
paths_before (branch k c f) us vs s h =
    let more : tokens_in f ++ (us ++ vs) ≡ (tokens_in f ++ us) ++ vs = sym (append_assoc (tokens_in f) us vs) in
    let own : (if is_path k then is_joined c ((tokens_in f ++ us) ++ vs) else true) ≡ true =
    subst (λ z. (if is_path k then is_joined c z else true) ≡ true) more h.0 in (
      path_before (is_path k) c (tokens_in f ++ us) vs s.1 own,
      paths_before c (tokens_in f ++ us) vs s.2 (subst (ArePaths c) more h.1),
      paths_before f us vs s.3 h.2,
    )
paths_before (fault n c f) us vs s h = absurd h
