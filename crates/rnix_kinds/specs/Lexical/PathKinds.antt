-- The kinds of paths.
use Rattle.rnix_kinds.specs.declared.kinds.SyntaxKind.{SyntaxKind}
use Rattle.rnix_kinds.specs.declared.kinds.SyntaxKind.TheVariants.{TOKEN_PATH_ABS, TOKEN_PATH_HOME, TOKEN_PATH_REL}
use Rattle.rnix_kinds.specs.declared.tokenizer.rule.PathStart.{PathStart}
use Rattle.rnix_kinds.specs.declared.tokenizer.rule.PathStart.TheVariants.{Root, Relative, Home}

abbrev pub kind_of_path : PathStart → SyntaxKind
kind_of_path Root = TOKEN_PATH_ABS
kind_of_path Relative = TOKEN_PATH_REL
kind_of_path Home = TOKEN_PATH_HOME
