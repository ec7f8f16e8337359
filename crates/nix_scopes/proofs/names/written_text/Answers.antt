use Rattle.std.{proofs.Common.{rules, ◌≡◌, ◌∙◌, sym}, specs.Prelude.option_map}
use Rattle.nix_scopes.{specs.Names.quoted_content, proofs.PlainLemmas.content_named}
use Rattle.nix_scopes.proofs.names.written_text.Goals as goal

pub returns-in_ok-cast-in-NODE_STRING : goal.returns-in_ok-cast-in-NODE_STRING
returns-in_ok-cast-in-NODE_STRING c =
    let content : option_map (λ text. text.now) c.quoted_content.result ≡ quoted_content c.args.node.now = search rules in
    content_named c.args.node.now c.quoted_content.result (sym c.kind.ensures ∙ c.in-NODE_STRING.is) content
