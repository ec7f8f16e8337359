use Rattle.std.proofs.Common.{◌≡◌, ◌∙◌, Bool, ap, sym, subst, Some, None}
use Rattle.std.specs.Str.Parse.{IsNumeral}
use Rattle.nix_values.specs.Floats.{without_first}
use Rattle.nix_values.specs.JsonErrors.{error_at, no_value}
use Rattle.nix_values.specs.JsonReading.{EndsAscii, IsRefusal}
use Rattle.nix_values.specs.JsonNumbers.{number_end, number_value, number_at}
use Rattle.nix_values.specs.Contents.{plain_of}
use Rattle.nix_values.proofs.JsonNumberLemmas.{ascii_boundary, no_number, number_found, number_none, integer_numeral}
use Rattle.nix_values.proofs.JsonReadingLemmas.{refused, refused_map}
use Rattle.nix_values.proofs.json_numbers.json_number.Goals as goal

pub split_at-requires : goal.split_at-requires
split_at-requires c =
    ascii_boundary c.args.text.now c.in-Some.end c.utf8.text
    (subst (λ t. EndsAscii t c.in-Some.end) c.as_bytes.ensures.value c.in-Some.ensures.ascii)

pub returns-in_default-clause-read : goal.returns-in_default-clause-read
returns-in_default-clause-read c =
    let none : number_end c.args.text.now ≡ None = ap number_end (sym c.as_bytes.ensures.value) ∙ sym c.number_end.ensures.end ∙ c.in_default.is in
    refused c.refused.result (number_at c.args.text.now ≡ None) (no_number c.args.text.now none)

pub number_value-requires : goal.number_value-requires
number_value-requires c =
    let is : number_end c.as_bytes.result.now ≡ Some (c.in-Some.end, c.in-Some.is_integer) = cc (c.number_end.ensures.end, c.in-Some.is) in
    let found : number_end c.args.text.now ≡ Some (c.in-Some.end, c.in-Some.is_integer) = ap number_end (sym c.as_bytes.ensures.value) ∙ is in
    λ h. subst (λ l. IsNumeral 10 (without_first 45 l)) (sym c.split_at.ensures.front)
    (integer_numeral c.args.text.now c.in-Some.end (found ∙ ap (λ (b : Bool). Some (c.in-Some.end, b)) h))

pub returns-in-Ok-clause-read : goal.returns-in-Ok-clause-read
returns-in-Ok-clause-read c =
    let is : number_end c.as_bytes.result.now ≡ Some (c.in-Some.end, c.in-Some.is_integer) = cc (c.number_end.ensures.end, c.in-Some.is) in
    let found : number_end c.args.text.now ≡ Some (c.in-Some.end, c.in-Some.is_integer) = ap number_end (sym c.as_bytes.ensures.value) ∙ is in
    number_found c.args.text.now c.in-Some.end c.in-Some.is_integer (plain_of c.in-Ok.value) found
    (subst (λ l. number_value c.in-Some.is_integer l ≡ Some (plain_of c.in-Ok.value)) c.split_at.ensures.front c.in-Ok.ensures.read)

pub returns-in-Err-clause-read : goal.returns-in-Err-clause-read
returns-in-Err-clause-read c =
    let is : number_end c.as_bytes.result.now ≡ Some (c.in-Some.end, c.in-Some.is_integer) = cc (c.number_end.ensures.end, c.in-Some.is) in
    let found : number_end c.args.text.now ≡ Some (c.in-Some.end, c.in-Some.is_integer) = ap number_end (sym c.as_bytes.ensures.value) ∙ is in
    refused_map c.in-Err.stop (number_value c.in-Some.is_integer c.split_at.result.0.now ≡ None) (number_at c.args.text.now ≡ None)
    (λ none. number_none c.args.text.now c.in-Some.end c.in-Some.is_integer found
    (subst (λ l. number_value c.in-Some.is_integer l ≡ None) c.split_at.ensures.front none))
    c.in-Err.ensures.read

pub returns-in-Err-clause-error : goal.returns-in-Err-clause-error
returns-in-Err-clause-error c =
    let is : number_end c.as_bytes.result.now ≡ Some (c.in-Some.end, c.in-Some.is_integer) = cc (c.number_end.ensures.end, c.in-Some.is) in
    let found : number_end c.args.text.now ≡ Some (c.in-Some.end, c.in-Some.is_integer) = ap number_end (sym c.as_bytes.ensures.value) ∙ is in
    subst (λ n. IsRefusal c.in-Err.stop (error_at (no_value n) c.args.start)) (sym found) (c.in-Err.ensures.error c.in-Some.end)
