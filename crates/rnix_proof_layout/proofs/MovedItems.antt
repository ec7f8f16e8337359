-- Items with other ranges keep their kinds and texts.
use Rattle.std.proofs.Common.{◌≡◌, suc, Bool, true, false, List, [], ◌∷◌, ◌++◌, length, refl, ap, sym, ◌∙◌, if◌then◌else◌}
use Rattle.{rnix_kinds.specs.declared.kinds.SyntaxKind.TheVariants.NODE_ERROR, rnix_green.specs.{Range.Extent, Forest.{leaf, node}}}
use Rattle.rnix_grammar.specs.{declared.expected_set.ExpectedSet.ExpectedSet, Tables.is_wanted, UnwantedRun.run_of, OperandStarts.second_kind, AnnotatedForest.Token}
use Rattle.rnix_grammar.specs.AnnotatedForest.{AnnotatedForest, blank, token, branch, fault, row_of, tokens_in, forget, is_some, head_kind}

-- the first of some ranges, or another one
abbrev pub extent_or : Extent → List Extent → Extent
extent_or x [] = x
extent_or x (p ∷ ps) = p

-- the ranges after the first
abbrev pub later : List Extent → List Extent
later [] = []
later (p ∷ ps) = ps

-- a token with the first of some ranges, if there is one
abbrev pub at : Token → List Extent → Token
at t ps = record {
  kind = t.kind;
  text = t.text;
  start = (extent_or record { start = t.start; end = t.end } ps).start;
  end = (extent_or record { start = t.start; end = t.end } ps).end;
}

-- tokens with other ranges, one by one
abbrev pub moved : List Token → List Extent → List Token
moved [] ps = []
moved (t ∷ ts) ps = at t ps ∷ moved ts (later ps)

-- the ranges after those of some tokens
abbrev pub past : List Token → List Extent → List Extent
past [] ps = ps
past (t ∷ ts) ps = past ts (later ps)

-- trees whose tokens have these ranges
abbrev pub moved_trees : AnnotatedForest → List Extent → AnnotatedForest
moved_trees blank ps = blank
moved_trees (token k t f) ps = token k (at t ps) (moved_trees f (later ps))
moved_trees (branch k c f) ps = branch k (moved_trees c ps) (moved_trees f (past (tokens_in c) ps))
moved_trees (fault n c f) ps = fault n (moved_trees c ps) (moved_trees f (past (tokens_in c) ps))

-- joined lists of tokens with other ranges are both lists with theirs
pub moved_two : (ts us : List Token) (ps : List Extent) → moved (ts ++ us) ps ≡ moved ts ps ++ moved us (past ts ps)
moved_two [] us ps = refl
moved_two (t ∷ ts) us ps = ap (λ xs. at t ps ∷ xs) (moved_two ts us (later ps))

pub past_two : (ts us : List Token) (ps : List Extent) → past (ts ++ us) ps ≡ past us (past ts ps)
past_two [] us ps = refl
past_two (t ∷ ts) us ps = past_two ts us (later ps)

-- the tokens of trees with other ranges are the tokens with these
pub tokens_moved : (f : AnnotatedForest) (ps : List Extent) → tokens_in (moved_trees f ps) ≡ moved (tokens_in f) ps
tokens_moved blank ps = refl
tokens_moved (token k t f) ps = ap (λ xs. at t ps ∷ xs) (tokens_moved f (later ps))
tokens_moved (branch k c f) ps =
    ap (λ xs. xs ++ tokens_in (moved_trees f (past (tokens_in c) ps))) (tokens_moved c ps)
    ∙ ap (λ xs. moved (tokens_in c) ps ++ xs) (tokens_moved f (past (tokens_in c) ps)) ∙ sym (moved_two (tokens_in c) (tokens_in f) ps)
tokens_moved (fault n c f) ps =
    ap (λ xs. xs ++ tokens_in (moved_trees f (past (tokens_in c) ps))) (tokens_moved c ps)
    ∙ ap (λ xs. moved (tokens_in c) ps ++ xs) (tokens_moved f (past (tokens_in c) ps)) ∙ sym (moved_two (tokens_in c) (tokens_in f) ps)

-- the same for the tokens of a tree and those after it
pub tokens_after : (f : AnnotatedForest) (us : List Token) (ps : List Extent)
    → moved (tokens_in f ++ us) ps ≡ tokens_in (moved_trees f ps) ++ moved us (past (tokens_in f) ps)
tokens_after f us ps = moved_two (tokens_in f) us ps ∙ ap (λ xs. xs ++ moved us (past (tokens_in f) ps)) (sym (tokens_moved f ps))

-- a forest of leaves with other ranges is that of the tokens with these
pub row_moved : (ts : List Token) (ps : List Extent) → moved_trees (row_of ts) ps ≡ row_of (moved ts ps)
row_moved [] ps = refl
row_moved (t ∷ ts) ps = ap (λ f. token t.kind (at t ps) f) (row_moved ts (later ps))

-- the trees, with their texts, do not depend on ranges
pub forget_moved : (f : AnnotatedForest) (ps : List Extent) → forget (moved_trees f ps) ≡ forget f
forget_moved blank ps = refl
forget_moved (token k t f) ps = ap (λ g. leaf k t.text g) (forget_moved f (later ps))
forget_moved (branch k c f) ps =
    ap (λ g. node k g (forget (moved_trees f (past (tokens_in c) ps)))) (forget_moved c ps)
    ∙ ap (λ g. node k (forget c) g) (forget_moved f (past (tokens_in c) ps))
forget_moved (fault n c f) ps =
    ap (λ g. node NODE_ERROR g (forget (moved_trees f (past (tokens_in c) ps)))) (forget_moved c ps)
    ∙ ap (λ g. node NODE_ERROR (forget c) g) (forget_moved f (past (tokens_in c) ps))

-- the kinds of the next items do not depend on ranges
pub head_moved : (ts : List Token) (ps : List Extent) → head_kind (moved ts ps) ≡ head_kind ts
head_moved [] ps = refl
head_moved (t ∷ ts) ps = refl

pub second_moved : (ts : List Token) (ps : List Extent) → second_kind (moved ts ps) ≡ second_kind ts
second_moved [] ps = refl
second_moved (t ∷ []) ps = refl
second_moved (t ∷ (u ∷ ts)) ps = refl

pub length_moved : (ts : List Token) (ps : List Extent) → length (moved ts ps) ≡ length ts
length_moved [] ps = refl
length_moved (t ∷ ts) ps = ap (λ n. suc n) (length_moved ts (later ps))

pub some_moved : (ts : List Token) (ps : List Extent) → is_some (moved ts ps) ≡ is_some ts
some_moved [] ps = refl
some_moved (t ∷ ts) ps = refl

-- a run does not depend on ranges
run_turn : (until : ExpectedSet) (t : Token) (ts : List Token) (ps : List Extent) (w : Bool)
    → run_of until (moved ts (later ps)) ≡ moved (run_of until ts) (later ps)
    → (if w then [] else at t ps ∷ run_of until (moved ts (later ps))) ≡ moved (if w then [] else t ∷ run_of until ts) ps
run_turn until t ts ps true h = refl
run_turn until t ts ps false h = ap (λ xs. at t ps ∷ xs) h

pub run_moved : (until : ExpectedSet) (ts : List Token) (ps : List Extent) → run_of until (moved ts ps) ≡ moved (run_of until ts) ps
run_moved until [] ps = refl
run_moved until (t ∷ ts) ps = run_turn until t ts ps (is_wanted until t.kind) (run_moved until ts (later ps))
