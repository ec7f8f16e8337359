-- Each reading of a text takes few steps.
use Rattle.std.proofs.Common.{◌≡◌, ◌≤◌, ◌+◌, ◌*◌, true, List, length, refl, subst, arith}
use Rattle.{rnix_kinds.specs.{declared.kinds.SyntaxKind.TheVariants.NODE_ROOT, Lexical.Tokens.Lexeme}, rnix_green.specs.Tree.Tree}
use Rattle.rnix_grammar.specs.{Fault.Fault, AnnotatedForest.{placed_from, forget}, Layout.items, Reading.IsReading}
use Rattle.rnix_proof_lemmas.{specs.{Machine.{initial_machine, with_leading}, Document.IsRead}, proofs.SpelledLemmas.AreRuled}
use Rattle.rnix_proof_steps.{specs.StepCount.{steps_in, IsReadIn}, proofs.BudgetedRuns.{by_items, by_levels}}
use Rattle.rnix_reader.{specs.Holds.IsThrough, proofs.EachText.each_through}
use Rattle.rnix_parser.proofs.OneReading.{one_reading, read_parsed}

-- the machine reads the tokens as this tree with these errors, in a number of steps within the bounds
record IsReadFew (ls : List Lexeme) (tree : Tree) (faults : List Fault) : Type 0 where
  read : IsRead ls tree faults
  few_by_items : 2 * steps_in read.runs ≤ 15 * length (items (placed_from 0 ls)) + 2
  few_by_levels : steps_in read.runs ≤ 4 * length (items (placed_from 0 ls)) + 3585

each_few : (ls : List Lexeme) → (tree : Tree) × ((faults : List Fault) × IsReadFew ls tree faults)
each_few ls =
    let t : IsThrough (initial_machine (placed_from 0 ls)) = each_through (placed_from 0 ls) in
    let tree : Tree = record { kind = NODE_ROOT; children = forget (with_leading true t.root.children t.last.remaining) } in (
      tree,
      (
        t.last.faults,
        record {
          read = record {
            root = t.root;
            last = t.last;
            runs = t.comes.runs;
            alone = t.alone;
            head = t.head;
            position = t.position;
            nothing = t.nothing;
            tree_is = refl;
            faults_are = refl;
          };
          few_by_items = omega (arith, t.comes.count, by_items t.steps (placed_from 0 ls) t.last t.comes);
          few_by_levels = omega (arith, t.comes.count, by_levels t.steps (placed_from 0 ls) t.last t.comes);
        },
      ),
    )

-- this holds for each reading of a text, since there is no other
few_steps : (ls : List Lexeme) (tree : Tree) (faults : List Fault) → AreRuled ls → IsReading ls tree faults → IsReadFew ls tree faults
few_steps ls tree faults ruled r =
    let found : (tree : Tree) × ((faults : List Fault) × IsReadFew ls tree faults) = each_few ls in
    let same : (found.0 ≡ tree) × (found.1.0 ≡ faults) =
    one_reading ls found.0 tree found.1.0 faults (read_parsed ls found.0 found.1.0 found.1.1.read ruled).reading r in
    subst (λ (x : Tree). IsReadFew ls x faults) same.0 (subst (λ (x : List Fault). IsReadFew ls found.0 x) same.1 found.1.1)

pub read_by_items : (ls : List Lexeme) (tree : Tree) (faults : List Fault) → AreRuled ls → IsReading ls tree faults
    → IsReadIn (λ steps. 2 * steps ≤ 15 * length (items (placed_from 0 ls)) + 2) ls tree faults
read_by_items ls tree faults ruled r = let few : IsReadFew ls tree faults = few_steps ls tree faults ruled r in (few.read, few.few_by_items)

pub read_by_levels : (ls : List Lexeme) (tree : Tree) (faults : List Fault) → AreRuled ls → IsReading ls tree faults
    → IsReadIn (λ steps. steps ≤ 4 * length (items (placed_from 0 ls)) + 3585) ls tree faults
read_by_levels ls tree faults ruled r = let few : IsReadFew ls tree faults = few_steps ls tree faults ruled r in (few.read, few.few_by_levels)
