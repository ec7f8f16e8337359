-- The output for a text and its formatted text.
use Rattle.std.proofs.Common.{◌≡◌, ℕ, Bool, true, false, List, [], Option, sym, subst, refl}
use Rattle.std.proofs.KnownBytes.{Appends-nil}
use Rattle.std.specs.Io.KnownBytes.{Appends}
use Rattle.nix_format.specs.declared.file.Task.{Task}
use Rattle.nix_format.specs.declared.file.Task.TheVariants.{Write, Check, Diff, Print}
use Rattle.nix_diff.specs.Unified.{IsUnified}
use Rattle.nix_format.specs.Outcomes.{Prints, changed_name, input_text, IsDiffOf, IsPrinted}

-- no diff is printed for equal texts
pub same_diff : (is_same : Bool) (text made : List ℕ) (old : Option (List ℕ)) → is_same ≡ true → Prints (IsDiffOf is_same text made) old old
same_diff is_same text made old is = ([], subst (λ (b : Bool). IsDiffOf b text made []) (sym is) refl, Appends-nil old)

-- the diff of texts that differ is printed
pub other_diff : (is_same : Bool) (text made diff bytes : List ℕ) (old new : Option (List ℕ)) → is_same ≡ false → IsUnified text made diff →
    bytes ≡ diff → Appends old new bytes → Prints (IsDiffOf is_same text made) old new
other_diff is_same text made diff bytes old new is unified same written =
    (diff, subst (λ (b : Bool). IsDiffOf b text made diff) (sym is) unified, subst (λ (all : List ℕ). Appends old new all) same written)

-- the output, depending on the task
pub check_printed : (task : Task) (is_same : Bool) (name text made : List ℕ) (old new : Option (List ℕ)) → task ≡ Check →
    Appends old new (changed_name is_same name) → Prints (IsPrinted task is_same name text made) old new
check_printed task is_same name text made old new is written =
    (changed_name is_same name, subst (λ (t : Task). IsPrinted t is_same name text made (changed_name is_same name)) (sym is) refl, written)

pub diff_printed : (task : Task) (is_same : Bool) (name text made : List ℕ) (old new : Option (List ℕ)) → task ≡ Diff →
    Prints (IsDiffOf is_same text made) old new → Prints (IsPrinted task is_same name text made) old new
diff_printed task is_same name text made old new is printed =
    (printed.0, subst (λ (t : Task). IsPrinted t is_same name text made printed.0) (sym is) printed.1, printed.2)

pub input_printed : (task : Task) (is_same : Bool) (name text made : List ℕ) (old new : Option (List ℕ)) → task ≡ Write →
    Appends old new (input_text name made) → Prints (IsPrinted task is_same name text made) old new
input_printed task is_same name text made old new is written =
    (input_text name made, subst (λ (t : Task). IsPrinted t is_same name text made (input_text name made)) (sym is) refl, written)

pub text_printed : (task : Task) (is_same : Bool) (name text made bytes : List ℕ) (old new : Option (List ℕ)) → task ≡ Print → bytes ≡ made →
    Appends old new bytes → Prints (IsPrinted task is_same name text made) old new
text_printed task is_same name text made bytes old new is same written =
    (bytes, subst (λ (t : Task). IsPrinted t is_same name text made bytes) (sym is) same, written)
