use Rattle.std.proofs.{Common.{◌≡◌, ◌∙◌, length, map, ap, sym, arith}, lemmas.{Int.{ints}, List.{length-map}}}
use Rattle.nix_scopes.specs.{Bound.{bindings_of, resolved_of}, Resolved.{bindings_in, resolved_in}}
use Rattle.rnix_c.{specs.{Answers.{filled}, NameCalls.{reference_of, bindings_written}}, proofs.WrittenNames.{own_binding, all_among}}
use Rattle.rnix_c.proofs.names.write_names.Goals as goal

pub returns-clause-bindings : goal.returns-clause-bindings
returns-clause-bindings c =
    let root = c.args.root.now in
    let bound = c.bindings-bound.result.now in
    let among : map own_binding bound ≡ bindings_written root =
    ap (map own_binding) c.bindings-bound.ensures ∙ all_among (bindings_of c.args.names.now) (bindings_in root) c.requires.firsts c.requires.bound in
    let count : length bound ≡ length (bindings_written root) = sym (length-map bound own_binding) ∙ ap length among in
    (omega (arith, ints, count), c.fill_bindings.ensures ∙ ap (λ written. filled written c.args.bindings.now) among)

pub returns-clause-references : goal.returns-clause-references
returns-clause-references c =
    let referring : map resolved_of c.references-referring.result.now ≡ resolved_in c.args.root.now =
    ap (map resolved_of) c.references-referring.ensures ∙ c.requires.resolved in
    c.fill_references.ensures ∙ ap (λ names. filled (map reference_of names) c.args.references.now) referring

pub returns-clause-count : goal.returns-clause-count
returns-clause-count c =
    let names = c.references-referring.result.now in
    let referring : map resolved_of names ≡ resolved_in c.args.root.now = ap (map resolved_of) c.references-referring.ensures ∙ c.requires.resolved in
    sym (length-map (map resolved_of names) reference_of ∙ length-map names resolved_of) ∙ ap (λ resolved. length (map reference_of resolved)) referring
