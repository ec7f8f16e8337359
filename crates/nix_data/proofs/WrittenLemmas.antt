-- Texts that mean data, and the data of a text.
use Rattle.std.proofs.Common.{◌≡◌, ◌∙◌, ℕ, List, [], ◌∷◌, ◌++◌, length, map, ap, sym, refl, subst, arith, Option, Some}
use Rattle.std.specs.Prelude.{IsSomeAnd, slice_get, Result, Ok, Err, IfOk, OnOk, OnErr, MatchResult, false}
use Rattle.std.proofs.lemmas.List.{append-nil}
use Rattle.rnix_kinds.specs.Lexical.Tokens.{tokens_of}
use Rattle.rnix_green.specs.Tree.{Located}
use Rattle.rnix_grammar.specs.Parsed.{IsParsed}
use Rattle.rnix_grammar.specs.Fault.{Fault}
use Rattle.rnix.specs.ParseResult.{Reading, root_of}
use Rattle.nix_values.specs.declared.data.Data.{Data}
use Rattle.nix_values.specs.Contents.{Entry, contents}
use Rattle.nix_data.specs.declared.no_data.NoData.{NoData}
use Rattle.nix_data.specs.Meaning.{Means, MeansFirst}
use Rattle.nix_data.specs.Added.{HasData, HasNoData}
use Rattle.nix_data.specs.Written.{IsMeant, IsWritten, IsData, IsNoData}
use Rattle.nix_data.specs.Misread.{IsReadAlike}

-- mapping a list of length 0 returns an empty list
mapped_none : {X Y : Type 0} (f : X → Y) (xs : List X) → length xs ≡ 0 → map f xs ≡ []
mapped_none f [] none = refl
mapped_none f (x ∷ xs) none = absurd (omega (arith, none))

-- if no values remain, the expression means all of them
pub meant : {X : Type 0} (levels : ℕ) (found : Option Located) (e node : Located) (entries : List Entry) (f : X → Entry) (rest : List X) → Some e ≡ found →
    node ≡ e → length rest ≡ 0 → MeansFirst levels 0 [] node entries (map f rest) → IsSomeAnd found (λ e. Means levels 0 [] e entries)
meant levels found e node entries f rest is same none means =
    let all : entries ≡ means.0 = means.2 ∙ ap (λ r. means.0 ++ r) (mapped_none f rest none) ∙ append-nil means.0 in
    subst (λ o. IsSomeAnd o (λ e. Means levels 0 [] e entries)) is
    (subst (λ n. Means levels 0 [] n entries) same (subst (Means levels 0 [] node) (sym all) means.1))

-- a text is written Nix if it is parsed without errors, Nix reads its tokens as the parser does, and its expression means these values
pub written : (text : List ℕ) (read : Reading) (root : Located) (entries : List Entry) → IsParsed (tokens_of text) read.tree read.faults →
    (read.faults ≡ []) × (root ≡ root_of read) → IsReadAlike root → IsMeant root entries → IsWritten text entries
written text read root entries parsed fine alike means = record {
  read = read;
  is_read = parsed;
  no_errors = fine.0;
  is_alike = subst IsReadAlike fine.1 alike;
  is_meant = subst (λ r. IsMeant r entries) fine.1 means;
}

-- a text has these data if it is parsed without errors, Nix reads its tokens as the parser does, and its tree has them
pub data_alike : (text : List ℕ) (read : Reading) (root : Located) (entries : List Entry) → IsParsed (tokens_of text) read.tree read.faults →
    (read.faults ≡ []) × (root ≡ root_of read) → IsReadAlike root → HasData root entries → IsData text entries
data_alike text read root entries parsed fine alike has = record {
  read = read;
  is_read = parsed;
  no_errors = fine.0;
  is_alike = subst IsReadAlike fine.1 alike;
  has_data = subst (λ r. HasData r entries) fine.1 has;
}

-- a text has no data if its tree has none
pub no_data : (text : List ℕ) (read : Reading) (root : Located) → IsParsed (tokens_of text) read.tree read.faults →
    (read.faults ≡ []) × (root ≡ root_of read) → HasNoData root → IsNoData text
no_data text read root parsed fine none = record {
  read = read;
  is_read = parsed;
  has_none = λ errors. subst HasNoData fine.1 none;
}

-- a text has no data if it has errors
pub has_errors : (text : List ℕ) (read : Reading) (fault : Fault) → IsParsed (tokens_of text) read.tree read.faults →
    slice_get read.faults 0 ≡ Some fault → IsNoData text
has_errors text read fault parsed first = record {
  read = read;
  is_read = parsed;
  has_none = λ none. absurd (no_first read.faults fault none first);
}
  where
    no_first : (faults : List Fault) (fault : Fault) → faults ≡ [] → slice_get faults 0 ≡ Some fault → ⊥
    no_first faults fault none first = cc (ap (λ (fs : List Fault). slice_get fs 0) none)

-- what a result about a tree says of its text
pub data_read : {E : Type 0} (text : List ℕ) (read : Reading) (root : Located) (result : Result (Result Data NoData) E) →
    IsParsed (tokens_of text) read.tree read.faults → (read.faults ≡ []) × (root ≡ root_of read) →
    IfOk result (λ outcome. OnOk outcome (IsReadAlike root)) →
    IfOk result (λ outcome. IfOk outcome (λ found. false ≡ false → HasData root (contents found))) →
    IfOk result (λ outcome. OnErr outcome (false ≡ false → HasNoData root)) →
    IfOk result (λ outcome. MatchResult outcome (λ found. IsData text (contents found)) (λ reason. IsNoData text))
data_read text read root (Ok (Ok found)) parsed fine alike has none = data_alike text read root (contents found) parsed fine alike (has refl)
data_read text read root (Ok (Err reason)) parsed fine alike has none = no_data text read root parsed fine (none refl)
data_read text read root (Err error) parsed fine alike has none = tt
