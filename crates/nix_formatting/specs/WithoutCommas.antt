-- Trees without commas, and with the contents of comments in place of their texts; and the steps of walks that show as much.
use Rattle.std.specs.Prelude.{ℕ, ◌||◌, not, Bool, List, [], ◌∷◌, if◌then◌else◌}
use Rattle.rnix_kinds.specs.declared.kinds.SyntaxKind.{SyntaxKind}
use Rattle.rnix_kinds.specs.declared.kinds.SyntaxKind.TheVariants.{TOKEN_COMMA, TOKEN_COMMENT}
use Rattle.rnix_green.specs.Equality.{same_kind}
use Rattle.rnix_green.specs.Forest.{Forest, empty, leaf, node}
use Rattle.rnix_parser.specs.Significant.{leaf_unless}
use Rattle.nix_formatting.specs.Comments.{contents_of}
use Rattle.nix_formatting.specs.WalkSteps.{Step, Shown, step_if}

-- what is kept of a token's text: the contents of a comment, and any other text as it is
abbrev pub kept_text : SyntaxKind → List ℕ → List ℕ
kept_text k text = if same_kind k TOKEN_COMMENT then contents_of text else text

-- the trees without commas, and with the contents of comments in place of their texts
abbrev pub without_commas : Forest → Forest
without_commas empty = empty
without_commas (leaf k t f) = leaf_unless (same_kind k TOKEN_COMMA) k (kept_text k t) (without_commas f)
without_commas (node k c f) = node k (without_commas c) (without_commas f)

-- what is kept of what a step shows
abbrev pub kept_shown : Bool → SyntaxKind → Shown → Shown
kept_shown is_node k shown = if is_node then shown else (kept_text k shown.0, shown.1)

-- a step, showing the contents of a comment in place of its text
abbrev pub kept_step : Step → Step
kept_step s = record { enters = s.enters; is_node = s.is_node; kind = s.kind; shown = kept_shown s.is_node s.kind s.shown }

-- whether a step passes no comma
abbrev pub is_kept : Step → Bool
is_kept s = s.is_node || not (same_kind s.kind TOKEN_COMMA)

-- the steps without those that pass commas, showing the contents of comments in place of their texts
abbrev pub kept_steps : List Step → List Step
kept_steps [] = []
kept_steps (s ∷ ss) = step_if (is_kept s) (kept_step s) (kept_steps ss)
