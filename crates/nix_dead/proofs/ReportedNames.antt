-- What a report says.
use Rattle.std.proofs.Common.{◌≡◌, ℕ, ◌+◌, ◌<◌, List, [], ◌∷◌, ◌++◌, length, map, take, get_or, Option, Some, refl, ap, sym, ◌∙◌, arith, subst, inr}
use Rattle.std.proofs.{KnownBytes.{Appends-nil, Appends-kept, Appends-trans, Keeps-trans}, lemmas.List.{take_more, flat_map_more}}
use Rattle.std.specs.{List.{flat_map}, Io.KnownBytes.{Appends, Keeps}}
use Rattle.rnix_kinds.specs.Lexical.Tokens.{tokens_of}
use Rattle.rnix_green.specs.Tree.{Tree, Located}
use Rattle.rnix_grammar.specs.{declared.error.ParseError.ParseError, Fault.{Fault, fault_of}, Parsed.IsParsed}
use Rattle.nix_cli.specs.{KnownTexts.{KnownTexts, Agrees}, MessageLocations.{display_name}}
use Rattle.nix_lints.specs.declared.unused.UnusedName.{UnusedName}
use Rattle.nix_dead.specs.declared.options.Options.{Options}
use Rattle.nix_dead.specs.DeadNames.{AreDead}
use Rattle.nix_dead.specs.Report.{name_output, AreReported, IsReported, IsFileReported}

-- a tree without names that are reported
pub none_reported : (options : Options) (file text : List ℕ) (root : Located) (old : Option (List ℕ)) (names : List UnusedName) → length names ≡ 0 →
    AreDead text options root names → AreReported options file text root old old 0
none_reported options file text root old [] none exactly = record { names = []; exactly = exactly; written = Appends-nil old; status_is = refl }
none_reported options file text root old (name ∷ names) none exactly = absurd (omega (arith, none))

-- a tree with names that are reported
pub some_reported : (options : Options) (file text : List ℕ) (root : Located) (old new : Option (List ℕ)) (names : List UnusedName) →
    (length names ≡ 0 → ⊥) → AreDead text options root names → Appends old new (flat_map (name_output options.is_json file text) names) →
    AreReported options file text root old new 1
some_reported options file text root old new [] some exactly written = absurd (some refl)
some_reported options file text root old new (name ∷ names) some exactly written =
    record { names = name ∷ names; exactly = exactly; written = written; status_is = refl }

-- a text without errors is reported
pub text_reported : (options : Options) (file text : List ℕ) (old new : Option (List ℕ)) (tree : Tree) (faults : List Fault) (status : ℕ) →
    IsParsed (tokens_of text) tree faults → faults ≡ [] → AreReported options file text record { tree = tree; number = 0 } old new status →
    IsReported options file text old new status
text_reported options file text old new tree faults status read none reported = record {
  tree = tree;
  faults = faults;
  read = read;
  faulty = λ some. absurd (some none);
  faultless = λ _. reported;
}

-- appending bytes, after calls that change no output
kept_appended : (old mid new : Option (List ℕ)) (bytes : List ℕ) → Keeps old mid → Appends mid new bytes → Appends old new bytes
kept_appended old mid new bytes kept written = Appends-trans old mid new [] bytes (Appends-kept old old mid [] (Appends-nil old) kept) written

-- a file is reported, after calls that change no output
pub file_reported : (options : Options) (texts : KnownTexts) (file text : List ℕ) (old mid new : Option (List ℕ)) (status : ℕ) →
    Agrees (texts file) (Some text) → Keeps old mid → IsReported options (display_name file) text mid new status →
    IsFileReported options texts file old new status
file_reported options texts file text old mid new status known kept reported = inr (
  text,
  known,
  record {
    tree = reported.tree;
    faults = reported.faults;
    read = reported.read;
    faulty = λ some. ((reported.faulty some).0, Keeps-trans old mid new kept (reported.faulty some).1);
    faultless = λ none. let own = reported.faultless none in record {
      names = own.names;
      exactly = own.exactly;
      written = kept_appended old mid new (flat_map (name_output options.is_json (display_name file) text) own.names) kept own.written;
      status_is = own.status_is;
    };
  },
)

-- the line of one more name is written
pub lines_more : (f : UnusedName → List ℕ) (names : List UnusedName) (i : ℕ) (d : UnusedName) (old mid new : Option (List ℕ)) → i < length names →
    Appends old mid (flat_map f (take i names)) → Appends mid new (f (get_or names i d)) → Appends old new (flat_map f (take (i + 1) names))
lines_more f names i d old mid new within before own =
    let all : flat_map f (take i names) ++ f (get_or names i d) ≡ flat_map f (take (i + 1) names) =
    flat_map_more f [] (take i names) (get_or names i d) ∙ ap (flat_map f) (sym (take_more names i d within)) in
    subst (λ (bytes : List ℕ). Appends old new bytes) all (Appends-trans old mid new (flat_map f (take i names)) (f (get_or names i d)) before own)

-- without errors there are no faults
pub no_faults : (errors : List ParseError) (faults : List Fault) → length errors ≡ 0 → map fault_of errors ≡ faults → faults ≡ []
no_faults [] faults none is = sym is
no_faults (error ∷ errors) faults none is = absurd (omega (arith, none))
