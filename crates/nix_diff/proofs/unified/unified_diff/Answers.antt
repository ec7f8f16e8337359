use Rattle.std.proofs.Common.{◌++◌, ap, subst, ◌∙◌}
use Rattle.std.specs.{List.flat_map, Prelude.string_bytes}
use Rattle.nix_diff.specs.{Hunks.AreHunks, Unified.{AreHeaderLinesOf, hunk_text}}
use Rattle.nix_diff.proofs.PatchedLines.{hunks_patch}
use Rattle.nix_diff.proofs.unified.unified_diff.Goals as goal

pub returns : goal.returns
returns c =
    let diff = c.in_ok-diff.diff.items in
    let hunks = c.in_ok-hunks.hunks.items in
    let header = string_bytes c.in_ok-out.out in
    let are_hunks : AreHunks diff 0 hunks = subst (λ d. AreHunks d 0 hunks) c.deref.ensures.value c.in_ok-hunks.ensures in
    record {
      diff = diff;
      is_diff = c.in_ok-diff.ensures.lines;
      hunks = hunks;
      are_hunks = are_hunks;
      patches = hunks_patch diff hunks _ _ are_hunks c.in_ok-diff.ensures.lines.olds c.in_ok-diff.ensures.lines.news;
      header = header;
      is_header = subst (λ hs. AreHeaderLinesOf hs header) c.deref-2.ensures.value c.in_ok-out.ensures;
      whole = c.in_ok-write_hunks.ensures ∙ ap (λ d. header ++ flat_map (hunk_text d) c.deref-4.result.now) c.deref-3.ensures.value
          ∙ ap (λ hs. header ++ flat_map (hunk_text diff) hs) c.deref-4.ensures.value;
    }
