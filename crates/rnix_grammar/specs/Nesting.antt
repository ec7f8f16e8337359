-- How deep a tree nests: how many counted positions are inside one another.
use Rattle.std.specs.Prelude.{◌≡◌, ℕ, suc, max, if◌then◌else◌}
use Rattle.rnix_grammar.specs.Tables.{depth_limit}
use Rattle.rnix_grammar.specs.AnnotatedForest.{Note, TooDeep, AnnotatedForest, blank, token, branch, fault}
use Rattle.rnix_grammar.specs.Rules.{Row, row, after, counts}
use Rattle.rnix_grammar.specs.BehindErrors.{after_error}

-- how many counted positions are inside one another in a forest that begins at this position of a row; an error node counts none
abbrev pub depth_of : Row → AnnotatedForest → ℕ
depth_of q blank = 0
depth_of q (token k t f) = depth_of (after q k) f
depth_of q (branch k c f) = max (if counts q then suc (depth_of (row k) c) else depth_of (row k) c) (depth_of (after q k) f)
depth_of q (fault n c f) = depth_of (after_error q n) f

-- the error node over what is nested too deep has as many counted positions around it, d, as the limit allows
abbrev pub IsLimited : ℕ → Note → Type 0
IsLimited d TooDeep = d ≡ depth_limit
IsLimited d n = Unit {0}

-- the same for each error node of a forest that begins at this position of a row
abbrev pub AreLimited : ℕ → Row → AnnotatedForest → Type 0
AreLimited d q blank = Unit {0}
AreLimited d q (token k t f) = AreLimited d (after q k) f
AreLimited d q (branch k c f) = AreLimited (if counts q then suc d else d) (row k) c × AreLimited d (after q k) f
AreLimited d q (fault n c f) = IsLimited d n × AreLimited d (after_error q n) f
