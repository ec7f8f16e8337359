-- The lints that look at one node.
use Rattle.std.specs.Prelude.{List, flat_map, Option, None}
use Rattle.std.specs.Option.{option_to_list}
use Rattle.rnix_kinds.specs.declared.kinds.SyntaxKind.{SyntaxKind}
use Rattle.rnix_kinds.specs.declared.kinds.SyntaxKind.TheVariants.{NODE_APPLY, NODE_PATH_REL, NODE_PAREN, NODE_ATTRPATH_VALUE, NODE_LITERAL}
use Rattle.rnix_kinds.specs.declared.kinds.SyntaxKind.TheVariants.{NODE_DYNAMIC, NODE_STRING, NODE_WITH, NODE_LET_IN, NODE_PAT_BIND}
use Rattle.rnix_green.specs.Tree.{Located, item_of}
use Rattle.rnix_green.specs.Walk.{nodes_in, elements_of}
use Rattle.nix_lints.specs.Found.{Found}
use Rattle.nix_lints.specs.{CalledData.called_data, BarePath.bare_path, Parentheses.needless_parentheses, ManualInherit.manual_inherit}
use Rattle.nix_scopes.specs.{Scopes.Resolved, Resolved.resolved_in}
use Rattle.nix_lints.specs.{EmptyLet.empty_let, LargeInteger.large_integer, DynamicName.dynamic_name, NeedlessWith.needless_with}
use Rattle.nix_lints.specs.{RepeatedArgument.repeated_argument}

-- the lint for a kind of node, given the references of the text
abbrev pub lint_of : SyntaxKind → List Resolved → Located → Option Found
lint_of NODE_APPLY names node = called_data node
lint_of NODE_PATH_REL names node = bare_path node
lint_of NODE_PAREN names node = needless_parentheses node
lint_of NODE_ATTRPATH_VALUE names node = manual_inherit node
lint_of NODE_LITERAL names node = large_integer node
lint_of NODE_DYNAMIC names node = dynamic_name node
lint_of NODE_STRING names node = dynamic_name node
lint_of NODE_WITH names node = needless_with names node
lint_of NODE_LET_IN names node = empty_let node
lint_of NODE_PAT_BIND names node = repeated_argument node
lint_of kind names node = None

-- what a lint finds at a node
abbrev pub lint_at : List Resolved → Located → Option Found
lint_at names node = lint_of (item_of node).kind names node

abbrev pub found_by_lint : List Resolved → Located → List Found
found_by_lint names node = option_to_list (lint_at names node)

-- what these lints find in a text, in the order of its nodes
abbrev pub found_at_nodes : Located → List Found
found_at_nodes root = flat_map (found_by_lint (resolved_in root)) (nodes_in (elements_of root))
