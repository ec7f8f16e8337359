-- Texts that are written byte by byte: f writes a byte, and leaves the bytes that p accepts, the plain ones, unchanged.
use Rattle.std.proofs.Common.{◌≡◌, ℕ, ◌+◌, ◌<◌, Bool, true, false, List, [], ◌∷◌, ◌++◌, length, take, drop, get_or, refl, ap, sym, ◌∙◌, append-nil, append_assoc}
use Rattle.std.proofs.{Common.{arith, suc, subst, Option}, lemmas.{Grind.flat_map-append, List.take_more}, Math.Seq.take-add, KnownBytes.Appends-trans}
use Rattle.std.specs.{List.{flat_map, prefix_len}, Io.KnownBytes.Appends}

-- a byte and the first bytes of the others
front_more : (b : ℕ) (bs : List ℕ) (n : ℕ) → take (1 + n) (b ∷ bs) ≡ b ∷ take n bs
front_more b bs n = let e : 1 + n ≡ suc n = omega arith in ap (λ k. take k (b ∷ bs)) e

-- each plain byte is written as itself
abbrev pub KeepsPlain : (ℕ → Bool) → (ℕ → List ℕ) → Type 0
KeepsPlain p f = (b : ℕ) → p b ≡ true → f b ≡ b ∷ []

-- a plain byte before plain bytes
plain_more : (p : ℕ → Bool) (f : ℕ → List ℕ) → KeepsPlain p f → (b : ℕ) (bs : List ℕ) (n : ℕ) → p b ≡ true → flat_map f (take n bs) ≡ take n bs
    → flat_map f (take (1 + n) (b ∷ bs)) ≡ take (1 + n) (b ∷ bs)
plain_more p f keeps b bs n h rest =
    ap (flat_map f) (front_more b bs n) ∙ ap (λ l. l ++ flat_map f (take n bs)) (keeps b h) ∙ ap (λ l. b ∷ l) rest ∙ sym (front_more b bs n)

-- a byte before others, which is plain or not
plain_front : (p : ℕ → Bool) (f : ℕ → List ℕ) → KeepsPlain p f → (b : ℕ) (bs : List ℕ) (e : Bool) → p b ≡ e
    → flat_map f (take (prefix_len p bs) bs) ≡ take (prefix_len p bs) bs
    → flat_map f (take (prefix_len p (b ∷ bs)) (b ∷ bs)) ≡ take (prefix_len p (b ∷ bs)) (b ∷ bs)
plain_front p f keeps b bs true h rest = rw h (plain_more p f keeps b bs (prefix_len p bs) h rest)
plain_front p f keeps b bs false h rest = rw h refl

-- the plain bytes at the beginning are written as themselves
plain_run : (p : ℕ → Bool) (f : ℕ → List ℕ) → KeepsPlain p f → (bs : List ℕ) → flat_map f (take (prefix_len p bs) bs) ≡ take (prefix_len p bs) bs
plain_run p f keeps [] = refl
plain_run p f keeps (b ∷ bs) = plain_front p f keeps b bs (p b) refl (plain_run p f keeps bs)

-- what is written for the plain bytes at the beginning
pub run_written : (p : ℕ → Bool) (f : ℕ → List ℕ) → KeepsPlain p f → (bs : List ℕ) (n : ℕ) → n ≡ prefix_len p bs → take n bs ≡ flat_map f (take n bs)
run_written p f keeps bs n h = rw h (sym (plain_run p f keeps bs))

-- what is written for one more byte follows what has been written
pub byte_more : (f : ℕ → List ℕ) (old mid new : Option (List ℕ)) (front bs : List ℕ) (i d : ℕ) → i < length bs
    → Appends old mid (front ++ flat_map f (take i bs)) → Appends mid new (f (get_or bs i d)) → Appends old new (front ++ flat_map f (take (i + 1) bs))
byte_more f old mid new front bs i d within first second =
    let byte = get_or bs i d in
    let all : (front ++ flat_map f (take i bs)) ++ f byte ≡ front ++ flat_map f (take (i + 1) bs) =
    append_assoc front (flat_map f (take i bs)) (f byte)
    ∙ ap (λ l. front ++ (flat_map f (take i bs) ++ l)) (sym (append-nil (f byte)))
    ∙ ap (λ l. front ++ l) (sym (flat_map-append f (take i bs) (byte ∷ [])))
    ∙ ap (λ l. front ++ flat_map f l) (sym (take_more bs i d within)) in
    subst (λ (l : List ℕ). Appends old new l) all (Appends-trans old mid new _ _ first second)

-- more bytes of the rest follow those that have been written
pub written_more : (f : ℕ → List ℕ) (old mid new : Option (List ℕ)) (front bs rest : List ℕ) (i n : ℕ) → rest ≡ drop i bs
    → Appends old mid (front ++ flat_map f (take i bs)) → Appends mid new (flat_map f (take n rest)) → Appends old new (front ++ flat_map f (take (i + n) bs))
written_more f old mid new front bs rest i n is first second =
    let part : flat_map f (take n rest) ≡ flat_map f (take n (drop i bs)) = ap (λ l. flat_map f (take n l)) is in
    let all : (front ++ flat_map f (take i bs)) ++ flat_map f (take n rest) ≡ front ++ flat_map f (take (i + n) bs) =
    ap (λ l. (front ++ flat_map f (take i bs)) ++ l) part
    ∙ append_assoc front (flat_map f (take i bs)) (flat_map f (take n (drop i bs)))
    ∙ ap (λ l. front ++ l) (sym (flat_map-append f (take i bs) (take n (drop i bs))))
    ∙ ap (λ l. front ++ flat_map f l) (sym (take-add i n bs)) in
    subst (λ (l : List ℕ). Appends old new l) all (Appends-trans old mid new _ _ first second)
