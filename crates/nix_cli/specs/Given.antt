-- The types of the program as the values of the definitions.
use Rattle.std.specs.Prelude.{map, option_map, string_bytes}
use Rattle.nix_cli.specs.CommandLine.{Options, Task, runs, helps, versions, refuses, Awaited, no_value, color_value, exclude_value, Parsed}
use Rattle.nix_cli.specs.declared.arguments.Command.{Command}
use Rattle.nix_cli.specs.declared.arguments.Arguments.{Arguments}
use Rattle.nix_cli.specs.declared.arguments.Task.{Task as Doing}
use Rattle.nix_cli.specs.declared.arguments.Task.TheVariants as doing
use Rattle.nix_cli.specs.declared.arguments.Awaited.{Awaited as Waiting}
use Rattle.nix_cli.specs.declared.arguments.Awaited.TheVariants as waiting

-- what a command accepts
abbrev pub options_of : Command → Options
options_of p = record { flags = map (λ flag. flag.now) p.flags.now; has_colors = p.has_colors; has_excludes = p.has_excludes; max_words = p.max_words }

-- the task
abbrev pub task_of : Doing → Task
task_of doing.Run = runs
task_of doing.Help = helps
task_of doing.Version = versions
task_of (doing.Refuse reason argument) = refuses (string_bytes argument)

-- the option whose value is the next argument
abbrev pub awaited_of : Waiting → Awaited
awaited_of waiting.None = no_value
awaited_of waiting.Color = color_value
awaited_of waiting.Exclude = exclude_value

-- the parsed command line
abbrev pub parsed_of : Arguments → Parsed
parsed_of a = record {
  task = task_of a.task;
  flags = map string_bytes a.flags.items;
  words = map string_bytes a.words.items;
  color = option_map string_bytes a.color;
  excludes = map string_bytes a.excludes.items;
  only_words = a.only_words;
  awaited = awaited_of a.awaited;
}
