use Rattle.rnix_grammar.specs.AnnotatedForest.{without_trivia}
use Rattle.rnix_proof_rows.proofs.{ReadsNest.{reads_shallow, reads_limited}, ErrorNodeRows.root_error_nodes, NamedRows.are_named}
use Rattle.rnix_parser.proofs.readings.error_forms.Goals as goal

pub returns : goal.returns
returns c = record {
  nodes = λ tokens tree faults r. root_error_nodes r.reads;
  named = λ tokens tree faults r. are_named r.reads;
  shallow = λ tokens tree faults r. reads_shallow (without_trivia r.annotated) faults r.reads;
  limited = λ tokens tree faults r. reads_limited (without_trivia r.annotated) faults r.reads;
}
