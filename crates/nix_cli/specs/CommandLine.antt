-- The meaning of a command line. A text is the list of its bytes.
use Rattle.std.specs.Prelude.{ℕ, ◌==◌, nat_lt, Bool, true, false, not, ◌&&◌, ◌||◌, List, [], ◌∷◌, ◌++◌, length, drop, bytes_eq, codes, Option}
use Rattle.std.specs.Prelude.{Some, None, if◌then◌else◌}
use Rattle.std.specs.List.{list_any}

-- what a command accepts: its options without a value, whether it has `--color` and `--exclude`, and the largest number of arguments besides options
pub record Options : Type 0 where
  pub flags : List (List ℕ)
  pub has_colors : Bool
  pub has_excludes : Bool
  pub max_words : ℕ

-- the task: run, print the help, print the version, or refuse an argument
pub data Task : Type 0 where
  runs : Task
  helps : Task
  versions : Task
  refuses : List ℕ → Task

-- the option whose value is the next argument
pub data Awaited : Type 0 where
  no_value : Awaited
  color_value : Awaited
  exclude_value : Awaited

-- a parsed command line
pub record Parsed : Type 0 where
  pub task : Task
  pub flags : List (List ℕ)
  pub words : List (List ℕ)
  pub color : Option (List ℕ)
  pub excludes : List (List ℕ)
  -- whether `--` ended the options, and the option whose value is the next argument
  pub only_words : Bool
  pub awaited : Awaited

-- no arguments
abbrev pub nothing : Parsed
nothing = record { task = runs; flags = []; words = []; color = None; excludes = []; only_words = false; awaited = no_value }

-- whether a text begins with another
abbrev pub begins : List ℕ → List ℕ → Bool
begins [] text = true
begins (b ∷ bs) [] = false
begins (b ∷ bs) (c ∷ cs) = b == c && begins bs cs

-- whether an argument is an option: it begins with `-` and is longer
abbrev pub is_option : List ℕ → Bool
is_option text = nat_lt 1 (length text) && begins (codes "-") text

-- sets the task
abbrev pub with_task : Task → Parsed → Parsed
with_task task r =
    record { task = task; flags = r.flags; words = r.words; color = r.color; excludes = r.excludes; only_words = r.only_words; awaited = r.awaited }

-- sets the value of `--color`: auto, always or never; any other is refused
abbrev pub with_color : List ℕ → Parsed → Parsed
with_color when r =
    if bytes_eq when (codes "auto") || (bytes_eq when (codes "always") || bytes_eq when (codes "never"))
    then record { task = r.task; flags = r.flags; words = r.words; color = Some when; excludes = r.excludes; only_words = r.only_words; awaited = no_value }
    else record { task = refuses when; flags = r.flags; words = r.words; color = r.color; excludes = r.excludes; only_words = r.only_words; awaited = no_value }

-- adds a value of `--exclude`
abbrev pub with_exclude : List ℕ → Parsed → Parsed
with_exclude glob r = record {
  task = r.task;
  flags = r.flags;
  words = r.words;
  color = r.color;
  excludes = r.excludes ++ glob ∷ [];
  only_words = r.only_words;
  awaited = no_value;
}

-- reads the value of the option that awaits one
abbrev pub with_value : Awaited → List ℕ → Parsed → Parsed
with_value no_value value r = r
with_value color_value value r = with_color value r
with_value exclude_value value r = with_exclude value r

-- adds an option without a value
abbrev pub with_flag : List ℕ → Parsed → Parsed
with_flag option r =
    record {
      task = r.task;
      flags = r.flags ++ option ∷ [];
      words = r.words;
      color = r.color;
      excludes = r.excludes;
      only_words = r.only_words;
      awaited = r.awaited;
    }

-- adds an argument that is not an option
abbrev pub with_word : List ℕ → Parsed → Parsed
with_word word r =
    record {
      task = r.task;
      flags = r.flags;
      words = r.words ++ word ∷ [];
      color = r.color;
      excludes = r.excludes;
      only_words = r.only_words;
      awaited = r.awaited;
    }

-- `--` ends the options
abbrev pub with_words : Parsed → Parsed
with_words r = record { task = r.task; flags = r.flags; words = r.words; color = r.color; excludes = r.excludes; only_words = true; awaited = r.awaited }

-- the next argument is the value of an option
abbrev pub with_awaited : Awaited → Parsed → Parsed
with_awaited awaited r = record {
  task = r.task;
  flags = r.flags;
  words = r.words;
  color = r.color;
  excludes = r.excludes;
  only_words = r.only_words;
  awaited = awaited;
}

-- the value in `--color=VALUE`, if the command has this option
abbrev pub color_in : Options → List ℕ → Option (List ℕ)
color_in options option = if options.has_colors && begins (codes "--color=") option then Some (drop 8 option) else None

-- the value in `--exclude=VALUE`, if the command has this option
abbrev pub exclude_in : Options → List ℕ → Option (List ℕ)
exclude_in options option = if options.has_excludes && begins (codes "--exclude=") option then Some (drop 10 option) else None

-- adds one of the command's options, or refuses an unknown one
abbrev pub with_flag_in : Options → List ℕ → Parsed → Parsed
with_flag_in options option r = if list_any (λ flag. bytes_eq flag option) options.flags then with_flag option r else with_task (refuses option) r

-- adds a value of `--exclude` if there is one; otherwise reads one of the command's options
abbrev pub with_exclude_or : Option (List ℕ) → Options → List ℕ → Parsed → Parsed
with_exclude_or (Some glob) options option r = with_exclude glob r
with_exclude_or None options option r = with_flag_in options option r

-- sets the value of `--color` if there is one; otherwise reads another option
abbrev pub with_color_or : Option (List ℕ) → Options → List ℕ → Parsed → Parsed
with_color_or (Some when) options option r = with_color when r
with_color_or None options option r = with_exclude_or (exclude_in options option) options option r

-- reads an option with a value after `=`, or one of the command's options
abbrev pub with_valued : Options → List ℕ → Parsed → Parsed
with_valued options option r = with_color_or (color_in options option) options option r

-- reads an option
abbrev pub with_option : Options → List ℕ → Parsed → Parsed
with_option options option r =
    if bytes_eq option (codes "--help") || bytes_eq option (codes "-h") then with_task helps r
    else (if bytes_eq option (codes "--version") then with_task versions r
    else (if options.has_colors && bytes_eq option (codes "--color") then with_awaited color_value r
    else (if options.has_excludes && bytes_eq option (codes "--exclude") then with_awaited exclude_value r
    else with_valued options option r)))

-- whether an option awaits its value
abbrev pub is_awaited : Awaited → Bool
is_awaited no_value = false
is_awaited color_value = true
is_awaited exclude_value = true

-- reads an argument, if the task is still to run the command
abbrev pub with_argument : Options → List ℕ → Parsed → Parsed
with_argument options argument r =
    if is_awaited r.awaited then with_value r.awaited argument r
    else (if is_option argument && not r.only_words then (if bytes_eq argument (codes "--") then with_words r else with_option options argument r)
    else (if nat_lt (length r.words) options.max_words then with_word argument r
    else with_task (refuses argument) r))

-- reads an argument, given the task so far; once the task is not to run the command, arguments are ignored
abbrev pub after_task : Task → Options → List ℕ → Parsed → Parsed
after_task runs options argument r = with_argument options argument r
after_task task options argument r = r

-- reads the next argument
abbrev pub and_argument : Options → List ℕ → Parsed → Parsed
and_argument options argument r = after_task r.task options argument r

-- reads some arguments in order
abbrev pub parse_from : Options → Parsed → List (List ℕ) → Parsed
parse_from options r [] = r
parse_from options r (argument ∷ arguments) = parse_from options (and_argument options argument r) arguments
