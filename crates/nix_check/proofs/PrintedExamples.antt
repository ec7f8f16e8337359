-- The output for some examples, by computation.
use Rattle.std.proofs.Common.{◌≡◌, [], ◌∷◌, refl}
use Rattle.std.specs.Prelude.{codes, true, false}
use Rattle.nix_diagnostics.specs.declared.code.Code.TheVariants.{RepeatedAttribute, ForeignSpace}
use Rattle.nix_diagnostics.specs.declared.code.Severity.TheVariants.{Warning}
use Rattle.nix_check.specs.{Listed.comma_joined, AsText.{message_text, severity_text}, AsSarif.{uri, sarif_tail, rule_members}, PrintedFindings.more_line, Tallies.status_of, ErrorReport.count_line, Fixing.{fixes_line, remaining_line}}

-- a message without colors
plain_message : message_text false (codes "31") (codes "error:") (codes "expected a value") ≡ codes "error: expected a value\n"
plain_message = refl

-- the members with which a result of SARIF begins
repeated_rule : rule_members RepeatedAttribute ≡ codes "{\"ruleId\":\"repeated-attribute\",\"level\":\"error\","
repeated_rule = refl

space_rule : rule_members ForeignSpace ≡ codes "{\"ruleId\":\"foreign-space\",\"level\":\"error\","
space_rule = refl

-- a warning without colors
warning_text : severity_text false Warning (codes "unused") ≡ codes "warning: unused\n"
warning_text = refl

-- commas are between texts
two_joined : comma_joined (codes "a" ∷ codes "b" ∷ []) ≡ codes "a,b"
two_joined = refl

-- spaces and percent signs in names are escaped
spaced_uri : uri (codes "a b/50%.nix") ≡ codes "\"a%20b/50%25.nix\""
spaced_uri = refl

-- the end of the output if a file was not read
incomplete_tail : sarif_tail false ≡ codes "\n],\"invocations\":[{\"executionSuccessful\":false}]}]}\n"
incomplete_tail = refl

-- the line about diagnostics that are not printed
one_more_line : more_line (codes "a.nix") false 1 ≡ codes "a.nix: 1 more error (shown with --all)\n"
one_more_line = refl

one_more_of_both : more_line (codes "a.nix") true 1 ≡ codes "a.nix: 1 more error or warning (shown with --all)\n"
one_more_of_both = refl

-- the counts and the status without errors, with errors, and with an unread file
clean_line : count_line record { errors = 0; warnings = 0; faulty = 0; unread = 0 } 1 ≡ codes "no errors\n"
clean_line = refl

clean_status : status_of false record { errors = 0; warnings = 0; faulty = 0; unread = 0 } ≡ 0
clean_status = refl

found_status : status_of false record { errors = 2; warnings = 0; faulty = 1; unread = 0 } ≡ 1
found_status = refl

unread_line : count_line record { errors = 0; warnings = 0; faulty = 0; unread = 1 } 1 ≡ []
unread_line = refl

unread_status : status_of false record { errors = 0; warnings = 0; faulty = 0; unread = 1 } ≡ 2
unread_status = refl

both_status : status_of false record { errors = 2; warnings = 0; faulty = 1; unread = 1 } ≡ 2
both_status = refl

-- warnings alone, beside errors, and with `--strict`
warning_line : count_line record { errors = 0; warnings = 1; faulty = 1; unread = 0 } 1 ≡ codes "1 warning\n"
warning_line = refl

both_line : count_line record { errors = 1; warnings = 1; faulty = 1; unread = 0 } 1 ≡ codes "1 error, 1 warning\n"
both_line = refl

warning_status : status_of false record { errors = 0; warnings = 3; faulty = 1; unread = 0 } ≡ 0
warning_status = refl

strict_status : status_of true record { errors = 0; warnings = 3; faulty = 1; unread = 0 } ≡ 1
strict_status = refl

-- the lines about the fixes of files
one_fix : fixes_line (codes "a.nix") 1 ≡ codes "a.nix: 1 fix\n"
one_fix = refl

no_fix : fixes_line (codes "a.nix") 0 ≡ []
no_fix = refl

none_left : remaining_line record { errors = 0; warnings = 0; faulty = 0; unread = 0 } ≡ codes "no errors are left\n"
none_left = refl

some_unread : remaining_line record { errors = 0; warnings = 0; faulty = 0; unread = 1 } ≡ []
some_unread = refl

one_left : remaining_line record { errors = 1; warnings = 0; faulty = 1; unread = 1 } ≡ codes "1 error is left\n"
one_left = refl
