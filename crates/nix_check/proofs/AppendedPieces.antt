-- Bytes that are appended in several pieces.
use Rattle.std.proofs.Common.{ℕ, List, ◌++◌, Option}
use Rattle.std.{proofs.KnownBytes.Appends-trans, specs.Io.KnownBytes.Appends}

-- three pieces
pub three : (a b c d : Option (List ℕ)) (xs ys zs : List ℕ) → Appends a b xs → Appends b c ys → Appends c d zs → Appends a d (xs ++ ys ++ zs)
three a b c d xs ys zs p q r = Appends-trans a c d (xs ++ ys) zs (Appends-trans a b c xs ys p q) r

-- five pieces
pub five : (a b c d e f : Option (List ℕ)) (vs ws xs ys zs : List ℕ) → Appends a b vs → Appends b c ws → Appends c d xs → Appends d e ys →
    Appends e f zs → Appends a f (vs ++ ws ++ xs ++ ys ++ zs)
five a b c d e f vs ws xs ys zs p q r s t = three a d e f (vs ++ ws ++ xs) ys zs (three a b c d vs ws xs p q r) s t

-- six pieces
pub six : (a b c d e f g : Option (List ℕ)) (us vs ws xs ys zs : List ℕ) → Appends a b us → Appends b c vs → Appends c d ws → Appends d e xs →
    Appends e f ys → Appends f g zs → Appends a g (us ++ vs ++ ws ++ xs ++ ys ++ zs)
six a b c d e f g us vs ws xs ys zs o p q r s t = Appends-trans a f g (us ++ vs ++ ws ++ xs ++ ys) zs (five a b c d e f us vs ws xs ys o p q r s) t

-- seven pieces
pub seven : (a b c d e f g h : Option (List ℕ)) (ts us vs ws xs ys zs : List ℕ) → Appends a b ts → Appends b c us → Appends c d vs →
    Appends d e ws → Appends e f xs → Appends f g ys → Appends g h zs → Appends a h (ts ++ us ++ vs ++ ws ++ xs ++ ys ++ zs)
seven a b c d e f g h ts us vs ws xs ys zs o p q r s t u =
    three a f g h (ts ++ us ++ vs ++ ws ++ xs) ys zs (five a b c d e f ts us vs ws xs o p q r s) t u
