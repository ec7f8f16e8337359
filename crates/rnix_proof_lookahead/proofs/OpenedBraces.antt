-- After `{`, before a name, `...` or `}`, nothing is complete until the next item is read, whether a pattern or a set has begun.
use Rattle.std.proofs.Common.{◌≡◌, inl, inr, ℕ, ◌+◌, ◌≤◌, Bool, true, false, List, ◌∷◌, length, refl, ap, ◌∙◌, subst, arith}
use Rattle.rnix_kinds.specs.declared.kinds.SyntaxKind.TheVariants.{TOKEN_IDENT, TOKEN_R_BRACE, TOKEN_ELLIPSIS}
use Rattle.rnix_green.specs.{Forest.{Forest, empty, leaf, join}, ForestCode.join_empty}
use Rattle.rnix_grammar.specs.{Fault.Fault, AnnotatedForest.Token, UnwantedRun.run_of}
use Rattle.rnix_proof_lemmas.specs.Machine.{Frame, Machine, dropped, begun, step}
use Rattle.rnix_proof_lookahead.{specs.Completed.{leaf_count, completed}, proofs.{CompletedTrees.leaf_count-join, KeptSteps.{trees_in, step_kept, run_taken}}}
use Rattle.{rnix_proof_prefix.proofs.BraceSteps.{item, item_is, braces, IsBeforeThird}, rnix_proof_lookahead.proofs.Leads.{Leads, next_leads, taken_leads}}
use Rattle.rnix_grammar.specs.declared.expected_set.ExpectedSet.TheVariants as u

module _ (k level d : ℕ) (t : Token) (f : Frame) (fs : List Frame) (us : List Token) (n : ℕ) (es : List Fault)
    (count : leaf_count (trees_in (f ∷ fs)) + 1 ≡ k) where
  -- all trees, with the brace
  abbrev pub with_brace : Forest
  with_brace = join (trees_in (f ∷ fs)) (leaf t.kind t.text empty)

  brace_count : leaf_count with_brace ≡ k
  brace_count = omega (arith, leaf_count-join (trees_in (f ∷ fs)) (leaf t.kind t.text empty), count)

  -- the machine after the opening brace, in a pattern or a set
  abbrev pub begun_braces : Bool → Token → Machine
  begun_braces pattern v = begun false (braces pattern) level d t f fs (t ∷ (v ∷ us)) n es

  -- if the next step reads an item, the trees with the brace stay as they are
  one_leads : (now : Machine) (v : Token) → now.remaining ≡ v ∷ us → trees_in now.frames ≡ with_brace → length (step false now).remaining ≤ length us
      → Leads k (completed k with_brace) now
  one_leads now v e h l =
      next_leads k (completed k with_brace) now v us e
      (subst (λ z. Leads k (completed k z) (step false now)) h
      (taken_leads k (trees_in now.frames) now.remaining (step false now) (ap leaf_count h ∙ brace_count) (step_kept now) (omega (arith, ap length e, l))))

  pattern_trees : join (join (join (trees_in (f ∷ fs)) empty) empty) (leaf t.kind t.text empty) ≡ with_brace
  pattern_trees = ap (λ z. join z (leaf t.kind t.text empty)) (join_empty (join (trees_in (f ∷ fs)) empty) ∙ join_empty (trees_in (f ∷ fs)))

  set_trees : join (join (trees_in (f ∷ fs)) empty) (leaf t.kind t.text empty) ≡ with_brace
  set_trees = ap (λ z. join z (leaf t.kind t.text empty)) (join_empty (trees_in (f ∷ fs)))

  -- opening two empty nodes adds only the brace
  deep_trees : join (join (join (join (trees_in (f ∷ fs)) empty) (leaf t.kind t.text empty)) empty) empty ≡ with_brace
  deep_trees =
      join_empty (join (join (join (trees_in (f ∷ fs)) empty) (leaf t.kind t.text empty)) empty)
      ∙ join_empty (join (join (trees_in (f ∷ fs)) empty) (leaf t.kind t.text empty)) ∙ set_trees

  all : length us ≤ length us
  all = omega arith

  name_leads : (pattern : Bool) (v : Token) → Leads k (completed k with_brace) (begun_braces pattern (item TOKEN_IDENT v))
  name_leads true v = one_leads (begun_braces true (item TOKEN_IDENT v)) (item TOKEN_IDENT v) refl pattern_trees all
  name_leads false v =
      let name : Token = item TOKEN_IDENT v in
      let first : Machine = step false (begun_braces false name) in
      next_leads k (completed k with_brace) (begun_braces false name) name us refl (next_leads k (completed k with_brace) first name us refl
      (one_leads (step false first) name refl deep_trees all))

  brace_leads : (pattern : Bool) (v : Token) → Leads k (completed k with_brace) (begun_braces pattern (item TOKEN_R_BRACE v))
  brace_leads true v = one_leads (begun_braces true (item TOKEN_R_BRACE v)) (item TOKEN_R_BRACE v) refl pattern_trees all
  brace_leads false v = one_leads (begun_braces false (item TOKEN_R_BRACE v)) (item TOKEN_R_BRACE v) refl set_trees all

  dots_leads : (pattern : Bool) (v : Token) → Leads k (completed k with_brace) (begun_braces pattern (item TOKEN_ELLIPSIS v))
  dots_leads true v = one_leads (begun_braces true (item TOKEN_ELLIPSIS v)) (item TOKEN_ELLIPSIS v) refl pattern_trees all
  dots_leads false v =
      let dots : Token = item TOKEN_ELLIPSIS v in
      let first : Machine = step false (begun_braces false dots) in
      let short : length (dropped (run_of u.Attr us) us) ≤ length us = omega (arith, run_taken u.Attr us) in
      next_leads k (completed k with_brace) (begun_braces false dots) dots us refl (next_leads k (completed k with_brace) first dots us refl
      (one_leads (step false first) dots refl deep_trees short))

  -- before such an item, the trees with the brace stay as they are
  pub opened_leads : (pattern : Bool) (v : Token) → IsBeforeThird v.kind → Leads k (completed k with_brace) (begun_braces pattern v)
  opened_leads pattern v (inl e) =
      subst (λ (z : Token). Leads k (completed k with_brace) (begun_braces pattern z)) (item_is TOKEN_IDENT v e) (name_leads pattern v)
  opened_leads pattern v (inr (inl e)) =
      subst (λ (z : Token). Leads k (completed k with_brace) (begun_braces pattern z)) (item_is TOKEN_R_BRACE v e) (brace_leads pattern v)
  opened_leads pattern v (inr (inr e)) =
      subst (λ (z : Token). Leads k (completed k with_brace) (begun_braces pattern z)) (item_is TOKEN_ELLIPSIS v e) (dots_leads pattern v)
