use Rattle.std.proofs.Common.{sym, subst}
use Rattle.rnix_kinds.specs.declared.kinds.SyntaxKind.TheVariants.{NODE_ATTR_SET, NODE_LEGACY_LET, NODE_LIST, NODE_PAREN, NODE_STRING, TOKEN_R_BRACE}
use Rattle.rnix_kinds.specs.declared.kinds.SyntaxKind.TheVariants.{TOKEN_R_BRACK, TOKEN_R_PAREN, TOKEN_STRING_END}
use Rattle.rnix_proof_reparse.specs.Bracketed.{IsBracketed, set, recursive_set, legacy_let, list, paren, string}
use Rattle.rnix_reparse.proofs.brackets.bracketed_by.Goals as goal

pub returns-in-TOKEN_L_BRACE : goal.returns-in-TOKEN_L_BRACE
returns-in-TOKEN_L_BRACE c = subst (λ first. IsBracketed NODE_ATTR_SET first TOKEN_R_BRACE) (sym c.in-TOKEN_L_BRACE.is) set

pub returns-in-TOKEN_REC : goal.returns-in-TOKEN_REC
returns-in-TOKEN_REC c = subst (λ first. IsBracketed NODE_ATTR_SET first TOKEN_R_BRACE) (sym c.in-TOKEN_REC.is) recursive_set

pub returns-in-TOKEN_LET : goal.returns-in-TOKEN_LET
returns-in-TOKEN_LET c = subst (λ first. IsBracketed NODE_LEGACY_LET first TOKEN_R_BRACE) (sym c.in-TOKEN_LET.is) legacy_let

pub returns-in-TOKEN_L_BRACK : goal.returns-in-TOKEN_L_BRACK
returns-in-TOKEN_L_BRACK c = subst (λ first. IsBracketed NODE_LIST first TOKEN_R_BRACK) (sym c.in-TOKEN_L_BRACK.is) list

pub returns-in-TOKEN_L_PAREN : goal.returns-in-TOKEN_L_PAREN
returns-in-TOKEN_L_PAREN c = subst (λ first. IsBracketed NODE_PAREN first TOKEN_R_PAREN) (sym c.in-TOKEN_L_PAREN.is) paren

pub returns-in-TOKEN_STRING_START : goal.returns-in-TOKEN_STRING_START
returns-in-TOKEN_STRING_START c = subst (λ first. IsBracketed NODE_STRING first TOKEN_STRING_END) (sym c.in-TOKEN_STRING_START.is) string
