use Rattle.{rnix_proof_rows.proofs.ParsedRanges.{parsed_order, parsed_nodes}}
use Rattle.rnix_parser.proofs.error_ranges.ranges_of_errors.Goals as goal

pub returns : goal.returns
returns c = record {
  order = λ tree faults h. parsed_order h h.reading.reads;
  nodes = λ tree faults h. parsed_nodes h h.reading.reads;
}
