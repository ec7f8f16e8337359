-- The tree of a text has at most three elements for each byte, plus three.
use Rattle.std.proofs.{Common.{◌≤◌, ◌<◌, ◌+◌, ◌*◌, ◌≡◌, ℕ, List, [], ◌∷◌, ◌++◌, length, ap, arith}, lemmas.List.{length-append, Elements.{All-head, All-tail}}}
use Rattle.{std.specs.{List.All, Prelude.flat_map}, rnix_kinds.specs.Lexical.Tokens.{Lexeme, text_of, AreSound, tokens_of}}
use Rattle.{rnix_green.specs.{Forest.element_count, Tree.{Tree, forest_of}}, rnix_grammar.specs.{Fault.Fault, Reading.IsReading}}
use Rattle.rnix_proof_size.proofs.SizedReadings.{sized_by_tokens}

-- there are at most as many tokens as bytes
few_tokens : (ls : List Lexeme) → All (λ (l : Lexeme). 0 < length l.1) ls → length ls ≤ length (flat_map text_of ls)
few_tokens [] h = omega arith
few_tokens (l ∷ ls) h =
    let own : 0 < length l.1 = All-head (λ (l : Lexeme). 0 < length l.1) l ls h in
    let rest : length ls ≤ length (flat_map text_of ls) = few_tokens ls (All-tail (λ (l : Lexeme). 0 < length l.1) l ls h) in
    let all : length (l.1 ++ flat_map text_of ls) ≡ length l.1 + length (flat_map text_of ls) = length-append l.1 (flat_map text_of ls) in
    omega (arith, own, rest, all)

pub sized_by_bytes : (text : List ℕ) (tree : Tree) (faults : List Fault) → AreSound text (tokens_of text) → IsReading (tokens_of text) tree faults
    → element_count (forest_of tree) ≤ 3 * length text + 3
sized_by_bytes text tree faults sound r =
    let tokens : element_count (forest_of tree) ≤ 3 * length (tokens_of text) + 3 = sized_by_tokens (tokens_of text) tree faults r in
    let few : length (tokens_of text) ≤ length (flat_map text_of (tokens_of text)) = few_tokens (tokens_of text) sound.some in
    let whole : length (flat_map text_of (tokens_of text)) ≡ length text = ap length sound.joined in
    omega (arith, tokens, few, whole)
