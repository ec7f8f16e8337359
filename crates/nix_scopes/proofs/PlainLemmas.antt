-- The value of a string in `"` whose content is its value.
use Rattle.std.proofs.Common.{◌≡◌, ◌∙◌, ℕ, Bool, true, false, ◌==◌, List, [], ◌∷◌, Option, Some, None, refl, sym, ap, map, arith}
use Rattle.std.proofs.lemmas.{Bool.{or_parts, Decides.nat_tests}, Option.none-some}
use Rattle.std.specs.{Prelude.{◌||◌, IfSome, option_map, if◌then◌else◌}, List.list_any}
use Rattle.rnix_green.specs.Tree.{Located, item_of, text_at}
use Rattle.rnix_base.specs.{Escapes.{first_piece, unescaped}, Normal.with_text, Parts.is_indented, Value.{indented_value, quoted_value, quoted_text}}
use Rattle.rnix_base.specs.declared.parts.InterpolPart.{InterpolPart, TheVariants.{Literal, Interpolation}}
use Rattle.rnix_base.proofs.{EscapeLemmas.{unescaped-nil, unescaped_step}, LineFeedLemmas.no_returns}
use Rattle.rnix.specs.{AttrName.{name_by, static_name}, StringParts.{string_parts, plain_value, only_text}}
use Rattle.nix_scopes.specs.Names.{may_differ, plain_content, quoted_content}
use Rattle.rnix_kinds.specs.declared.kinds.SyntaxKind.TheVariants as k
use denote.Ref.{Bor}

-- a byte that needs no escape is a piece of its own
own_piece : (b : ℕ) (text : List ℕ) → may_differ b ≡ false → first_piece false (b ∷ text) ≡ Some record { len = 1; value = b ∷ [] }
own_piece b text h = grind (arith, nat_tests)

-- unescaping does not change bytes that need no escape
all_own : (text : List ℕ) → list_any may_differ text ≡ false → unescaped false text ≡ text
all_own [] h = unescaped-nil false
all_own (b ∷ text) h =
    unescaped_step false b text _ (own_piece b text (or_parts _ _ h).0) ∙ ap (λ t. b ∷ t) (all_own text (or_parts _ _ h).1)

-- such bytes contain no carriage return
no_return : (text : List ℕ) → list_any may_differ text ≡ false → list_any (λ b. b == 13) text ≡ false
no_return [] h = refl
no_return (b ∷ text) h =
    ap (λ x. x || list_any (λ b. b == 13) text) (or_parts _ _ (or_parts _ _ (or_parts _ _ h).0).1).1 ∙ no_return text (or_parts _ _ h).1

-- such bytes are their own value
own_value : (text : List ℕ) → list_any may_differ text ≡ false → quoted_text text ≡ text
own_value text h = ap (unescaped false) (no_returns false text (no_return text h)) ∙ all_own text h

-- the value of parts with plain content is that content
plain_parts : (parts : List (InterpolPart Located Located)) (text : List ℕ) → plain_content parts ≡ Some text →
    only_text (quoted_value (map (with_text text_at) parts)) ≡ Some text
plain_parts [] text is = absurd (none-some text is)
plain_parts (Literal token ∷ []) text is = chosen (list_any may_differ (text_at token)) refl is
  where
    chosen : (b : Bool) → list_any may_differ (text_at token) ≡ b → (if b then None else Some (text_at token)) ≡ Some text →
        Some (quoted_text (text_at token)) ≡ Some text
    chosen true differs is = absurd (none-some text is)
    chosen false plain is = ap Some (own_value (text_at token) plain) ∙ is
plain_parts (Literal token ∷ part ∷ parts) text is = absurd (none-some text is)
plain_parts (Interpolation i ∷ parts) text is = absurd (none-some text is)

-- the value of a string in `"` is its content
content_is : (e : Located) (text : List ℕ) → quoted_content e ≡ Some text → (if is_indented e then None else plain_value e) ≡ Some text
content_is e text is = chosen (is_indented e) refl is
  where
    chosen : (b : Bool) → is_indented e ≡ b → (if b then None else plain_content (string_parts e)) ≡ Some text →
        (if b then None else plain_value e) ≡ Some text
    chosen true indented is = absurd (none-some text is)
    chosen false quoted is =
        let parts = map (with_text text_at) (string_parts e) in
        ap (λ b. only_text (if b then indented_value parts else quoted_value parts)) quoted ∙ plain_parts (string_parts e) text is

-- the name of an attribute that is such a string is its content
pub content_named : (e : Located) (r : Option (Bor (List ℕ))) → (item_of e).kind ≡ k.NODE_STRING → option_map (λ text. text.now) r ≡ quoted_content e →
    IfSome r (λ text. static_name e ≡ Some text.now)
content_named e None kind is = tt
content_named e (Some text) kind is = ap (λ kind. name_by kind e) kind ∙ content_is e text.now (sym is)
