use Rattle.std.proofs.Common.{◌≡◌, ◌∙◌, ◌+◌, ◌-◌, ◌<◌, ◌≤◌, ℕ, false, List, length, get_or, ap, sym, subst, arith, rules, lit<, string_bytes, None}
use Rattle.std.specs.Prelude.{◌==◌}
use Rattle.std.proofs.lemmas.Bool.{eqb-true, eqb-false}
use Rattle.std.specs.{Str.IsUtf8, List.prefix_len}
use Rattle.std.proofs.lemmas.Str.{IsUtf8-drop}
use Rattle.nix_values.proofs.JsonStringLemmas.{plain_boundary}
use Rattle.std.proofs.lemmas.List.Sums.{prefix_len-le-length}
use Rattle.std.proofs.lemmas.List.{nil_from_length}
use Rattle.nix_values.specs.JsonEscapes.{is_plain}
use Rattle.nix_values.specs.JsonContent.{content, escape_at}
use Rattle.nix_values.specs.declared.json_error.JsonReason.TheVariants.{OpenString}
use Rattle.nix_values.specs.JsonErrors.{error_at, no_escape, no_character}
use Rattle.nix_values.proofs.JsonContentLemmas.{IsReadTo, read_none, read_run, quote_next, escape_next, no_escape_next, end_next, control_next}
use Rattle.nix_values.proofs.JsonStringErrorLemmas.{refusal, none_refusal, error_begun, error_escape, error_run, error_open, error_control, error_no_escape}
use Rattle.nix_values.proofs.JsonNumberLemmas.{first_boundary}
use Rattle.nix_values.proofs.JsonReadingLemmas.{refused, refused_map}
use Rattle.nix_values.proofs.json_content.json_string.Goals as goal

pub loop-rest-init : goal.loop-rest-init
loop-rest-init c = (
  c.utf8.text,
  subst (λ v. IsReadTo c.args.text.now v c.args.text.now) (sym c.new-value.ensures.bytes) (read_none c.args.text.now),
  error_begun c.args.start c.args.text.now,
)

pub returns-then-byte-eq34-clause-read : goal.returns-then-byte-eq34-clause-read
returns-then-byte-eq34-clause-read c =
    let rest = c.loop-rest.rest.now in
    let remaining = c.in_ok-behind.behind.now in
    let run = read_run c.args.text.now (string_bytes c.loop-rest.value) rest (string_bytes c.after_plain.new.value) remaining c.loop-rest.invariant.1
    c.in_ok-behind.ensures.0 c.in_ok-behind.ensures.1 (prefix_len-le-length is_plain rest) in
    let empty : (length remaining == 0) ≡ false = sym c.is_empty-in-loop-rest.ensures ∙ c.if-is_empty.false in
    let some : 0 < length remaining = omega (arith, eqb-false (length remaining) 0 empty) in
    let first : get_or remaining 0 0 ≡ 34 = sym (ap (λ l. get_or l 0 0) c.as_bytes.ensures.value) ∙ sym c.byte_at-byte.ensures ∙ c.if-byte-eq34.true in
    quote_next c.args.text.now (string_bytes c.after_plain.new.value) remaining run some first

pub returns-then-is_empty-clause-read : goal.returns-then-is_empty-clause-read
returns-then-is_empty-clause-read c =
    let rest = c.loop-rest.rest.now in
    let remaining = c.in_ok-behind.behind.now in
    let run = read_run c.args.text.now (string_bytes c.loop-rest.value) rest (string_bytes c.after_plain.new.value) remaining c.loop-rest.invariant.1
    c.in_ok-behind.ensures.0 c.in_ok-behind.ensures.1 (prefix_len-le-length is_plain rest) in
    let zero_len : length remaining ≡ 0 = eqb-true (length remaining) 0 (sym c.is_empty-in-loop-rest.ensures ∙ c.if-is_empty.true) in
    refused c.refused.result (content 0 c.args.text.now ≡ None)
    (end_next c.args.text.now (string_bytes c.after_plain.new.value) remaining run (nil_from_length remaining zero_len))

pub returns-then-byte-ne92-clause-read : goal.returns-then-byte-ne92-clause-read
returns-then-byte-ne92-clause-read c =
    let rest = c.loop-rest.rest.now in
    let remaining = c.in_ok-behind.behind.now in
    let run = read_run c.args.text.now (string_bytes c.loop-rest.value) rest (string_bytes c.after_plain.new.value) remaining c.loop-rest.invariant.1
    c.in_ok-behind.ensures.0 c.in_ok-behind.ensures.1 (prefix_len-le-length is_plain rest) in
    let empty : (length remaining == 0) ≡ false = sym c.is_empty-in-loop-rest.ensures ∙ c.if-is_empty.false in
    let some : 0 < length remaining = omega (arith, eqb-false (length remaining) 0 empty) in
    let first : get_or remaining 0 0 ≡ c.byte_at-byte.result = sym (ap (λ l. get_or l 0 0) c.as_bytes.ensures.value) ∙ sym c.byte_at-byte.ensures in
    refused c.refused-then-byte-ne92.result (content 0 c.args.text.now ≡ None)
    (control_next c.args.text.now (string_bytes c.after_plain.new.value) rest remaining run c.in_ok-behind.ensures.0 some
    (λ e. omega (arith, c.if-byte-eq34.false, first, e)) (λ e. omega (arith, c.if-byte-ne92.true, first, e)))

pub split_at-requires : goal.split_at-requires
split_at-requires c =
    let remaining = c.in_ok-behind.behind.now in
    let first : get_or remaining 0 0 ≡ 92 = sym (ap (λ l. get_or l 0 0) c.as_bytes.ensures.value) ∙ sym c.byte_at-byte.ensures ∙ c.if-byte-ne92.false in
    let utf8 : IsUtf8 remaining = subst IsUtf8 (sym c.in_ok-behind.ensures.0)
    (IsUtf8-drop c.loop-rest.rest.now (prefix_len is_plain c.loop-rest.rest.now) c.loop-rest.invariant.0 (plain_boundary c.loop-rest.rest.now)) in
    first_boundary remaining 92 utf8 first (lit< tt) (lit< tt)

pub returns-in-Err-clause-read : goal.returns-in-Err-clause-read
returns-in-Err-clause-read c =
    let rest = c.loop-rest.rest.now in
    let remaining = c.in_ok-behind.behind.now in
    let mid : List ℕ = string_bytes c.after_plain.new.value in
    let run = read_run c.args.text.now (string_bytes c.loop-rest.value) rest mid remaining c.loop-rest.invariant.1
    c.in_ok-behind.ensures.0 c.in_ok-behind.ensures.1 (prefix_len-le-length is_plain rest) in
    let empty : (length remaining == 0) ≡ false = sym c.is_empty-in-loop-rest.ensures ∙ c.if-is_empty.false in
    let some : 0 < length remaining = omega (arith, eqb-false (length remaining) 0 empty) in
    let first : get_or remaining 0 0 ≡ 92 = sym (ap (λ l. get_or l 0 0) c.as_bytes.ensures.value) ∙ sym c.byte_at-byte.ensures ∙ c.if-byte-ne92.false in
    refused_map c.in-Err.stop (escape_at c.split_at.result.1.now ≡ None) (content 0 c.args.text.now ≡ None)
    (λ none. no_escape_next c.args.text.now mid remaining c.split_at.result.1.now run some first c.split_at.ensures.back none) c.in-Err.ensures.read

pub loop-rest-preserved : goal.loop-rest-preserved
loop-rest-preserved c =
    let rest = c.loop-rest.rest.now in
    let remaining = c.in_ok-behind.behind.now in
    let mid : List ℕ = string_bytes c.after_plain.new.value in
    let run = read_run c.args.text.now (string_bytes c.loop-rest.value) rest mid remaining c.loop-rest.invariant.1
    c.in_ok-behind.ensures.0 c.in_ok-behind.ensures.1 (prefix_len-le-length is_plain rest) in
    let empty : (length remaining == 0) ≡ false = sym c.is_empty-in-loop-rest.ensures ∙ c.if-is_empty.false in
    let some : 0 < length remaining = omega (arith, eqb-false (length remaining) 0 empty) in
    let first : get_or remaining 0 0 ≡ 92 = sym (ap (λ l. get_or l 0 0) c.as_bytes.ensures.value) ∙ sym c.byte_at-byte.ensures ∙ c.if-byte-ne92.false in
    let e = c.in-Ok.ensures.read in
    let utf8 : IsUtf8 c.in-Ok.more.now = search rules in (
      utf8,
      escape_next c.args.text.now mid remaining c.split_at.result.1.now (string_bytes c.after_escape.new.value) c.in-Ok.more.now e.0 e.1 run some first
          c.split_at.ensures.back e.2 e.3 e.4 e.5,
      error_escape c.args.start c.args.text.now remaining c.split_at.result.1.now c.in-Ok.more.now e.0 e.1 run.within some first c.split_at.ensures.back
          e.2 e.3 e.5 (error_run c.args.start c.args.text.now rest remaining c.loop-rest.invariant.1.within c.in_ok-behind.ensures.0
          (prefix_len-le-length is_plain rest) c.loop-rest.invariant.2),
    )

pub returns-clause-read : goal.returns-clause-read
returns-clause-read c =
    let rest = c.loop-rest.rest.now in
    let zero_len : length rest ≡ 0 = eqb-true (length rest) 0 (sym c.is_empty.ensures ∙ c.loop-rest-test.false) in
    refused c.refused-2.result (content 0 c.args.text.now ≡ None)
    (end_next c.args.text.now (string_bytes c.loop-rest.value) rest c.loop-rest.invariant.1 (nil_from_length rest zero_len))

pub returns-then-is_empty-clause-error : goal.returns-then-is_empty-clause-error
returns-then-is_empty-clause-error c bound =
    let start = c.args.start in
    let text = c.args.text.now in
    let rest = c.loop-rest.rest.now in
    let remaining = c.in_ok-behind.behind.now in
    let within : length rest ≤ length text = c.loop-rest.invariant.1.within in
    let fits = prefix_len-le-length is_plain rest in
    let left = error_run start text rest remaining within c.in_ok-behind.ensures.0 fits c.loop-rest.invariant.2 in
    let zero_len : length remaining ≡ 0 = eqb-true (length remaining) 0 (sym c.is_empty-in-loop-rest.ensures ∙ c.if-is_empty.true) in
    refusal c.refused.result (error_at OpenString c.saturating_sub.result) _ c.refused.ensures
    (ap (error_at OpenString) c.saturating_sub.ensures ∙ error_open start (start - 1) text remaining left (nil_from_length remaining zero_len))

pub returns-then-byte-ne92-clause-error : goal.returns-then-byte-ne92-clause-error
returns-then-byte-ne92-clause-error c bound =
    let start = c.args.start in
    let text = c.args.text.now in
    let rest = c.loop-rest.rest.now in
    let remaining = c.in_ok-behind.behind.now in
    let within : length rest ≤ length text = c.loop-rest.invariant.1.within in
    let fits = prefix_len-le-length is_plain rest in
    let left = error_run start text rest remaining within c.in_ok-behind.ensures.0 fits c.loop-rest.invariant.2 in
    let run = read_run text (string_bytes c.loop-rest.value) rest (string_bytes c.after_plain.new.value) remaining c.loop-rest.invariant.1
    c.in_ok-behind.ensures.0 c.in_ok-behind.ensures.1 fits in
    let empty : (length remaining == 0) ≡ false = sym c.is_empty-in-loop-rest.ensures ∙ c.if-is_empty.false in
    let some : 0 < length remaining = omega (arith, eqb-false (length remaining) 0 empty) in
    let place : c.saturating_add-at.result ≡ start + (length text - length remaining) =
    first_of (omega (arith, c.saturating_add-at.ensures, bound, run.within), grind arith) in
    let first : get_or remaining 0 0 ≡ c.byte_at-byte.result = sym (ap (λ l. get_or l 0 0) c.as_bytes.ensures.value) ∙ sym c.byte_at-byte.ensures in
    refusal c.refused-then-byte-ne92.result (error_at c.control_reason.result c.saturating_add-at.result) _ c.refused-then-byte-ne92.ensures
    (ap (λ reason. error_at reason c.saturating_add-at.result) (c.control_reason.ensures ∙ ap no_character (sym first))
    ∙ error_control start (start - 1) c.saturating_add-at.result text rest remaining left c.in_ok-behind.ensures.0 some
    (λ e. omega (arith, c.if-byte-eq34.false, first, e)) (λ e. omega (arith, c.if-byte-ne92.true, first, e)) place)

pub returns-in-Err-clause-error : goal.returns-in-Err-clause-error
returns-in-Err-clause-error c bound =
    let start = c.args.start in
    let text = c.args.text.now in
    let rest = c.loop-rest.rest.now in
    let remaining = c.in_ok-behind.behind.now in
    let within : length rest ≤ length text = c.loop-rest.invariant.1.within in
    let fits = prefix_len-le-length is_plain rest in
    let left = error_run start text rest remaining within c.in_ok-behind.ensures.0 fits c.loop-rest.invariant.2 in
    let run = read_run text (string_bytes c.loop-rest.value) rest (string_bytes c.after_plain.new.value) remaining c.loop-rest.invariant.1
    c.in_ok-behind.ensures.0 c.in_ok-behind.ensures.1 fits in
    let empty : (length remaining == 0) ≡ false = sym c.is_empty-in-loop-rest.ensures ∙ c.if-is_empty.false in
    let some : 0 < length remaining = omega (arith, eqb-false (length remaining) 0 empty) in
    let place : c.saturating_add-at.result ≡ start + (length text - length remaining) =
    first_of (omega (arith, c.saturating_add-at.ensures, bound, run.within), grind arith) in
    let first : get_or remaining 0 0 ≡ 92 = sym (ap (λ l. get_or l 0 0) c.as_bytes.ensures.value) ∙ sym c.byte_at-byte.ensures ∙ c.if-byte-ne92.false in
    none_refusal c.in-Err.stop (escape_at c.split_at.result.1.now ≡ None) (error_at (no_escape c.split_at.result.1.now) c.saturating_add-at.result) _
    c.in-Err.ensures.read c.in-Err.ensures.error
    (λ none. error_no_escape start (start - 1) c.saturating_add-at.result text remaining c.split_at.result.1.now left some first c.split_at.ensures.back
    none place)

pub returns-clause-error : goal.returns-clause-error
returns-clause-error c bound =
    let start = c.args.start in
    let text = c.args.text.now in
    let rest = c.loop-rest.rest.now in
    let zero_len : length rest ≡ 0 = eqb-true (length rest) 0 (sym c.is_empty.ensures ∙ c.loop-rest-test.false) in
    refusal c.refused-2.result (error_at OpenString c.saturating_sub-2.result) _ c.refused-2.ensures
    (ap (error_at OpenString) c.saturating_sub-2.ensures
    ∙ error_open start (start - 1) text rest c.loop-rest.invariant.2 (nil_from_length rest zero_len))
