-- The definitions for some examples, by computation.
use Rattle.std.proofs.Common.{◌≡◌, refl}
use Rattle.std.specs.Prelude.{codes, true}
use Rattle.nix_format.specs.declared.file.Task.TheVariants.{Write, Check, Diff, Print}
use Rattle.nix_format.specs.declared.file.Outcome.TheVariants.{Changed, Failed}
use Rattle.nix_format.specs.Outcomes.{heading, counted, status_of}

-- a file would change: a check finds it, and a run that writes does not
check_status : status_of Check record { changed = 1; same = 2; failed = 0 } ≡ 1
check_status = refl

diff_status : status_of Diff record { changed = 1; same = 2; failed = 0 } ≡ 1
diff_status = refl

write_status : status_of Write record { changed = 1; same = 2; failed = 0 } ≡ 0
write_status = refl

print_status : status_of Print record { changed = 1; same = 2; failed = 0 } ≡ 0
print_status = refl

-- no file would change
same_status : status_of Check record { changed = 0; same = 3; failed = 0 } ≡ 0
same_status = refl

-- a file has failed
failed_status : status_of Check record { changed = 1; same = 1; failed = 1 } ≡ 2
failed_status = refl

-- one more file is counted
changed_counted : counted Changed record { changed = 1; same = 1; failed = 0 } ≡ record { changed = 2; same = 1; failed = 0 }
changed_counted = refl

failed_counted : counted Failed record { changed = 1; same = 1; failed = 0 } ≡ record { changed = 1; same = 1; failed = 1 }
failed_counted = refl

-- the heading of standard input
input_heading : heading true (codes "-") ≡ codes "# <stdin>:\n"
input_heading = refl
