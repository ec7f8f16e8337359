-- The trees of the strict grammar are readings of their items, without errors.
use Rattle.std.proofs.Common.{◌≡◌, ℕ, Bool, true, List, [], ◌∷◌, ◌++◌, Some, refl, ap, sym, ◌∙◌, subst, arith}
use Rattle.std.proofs.{Common.{◌≤◌, ◌&&◌, ◌||◌, if◌then◌else◌, nat_eq}, lemmas.Bool.and_parts}
use Rattle.rnix_kinds.specs.declared.kinds.SyntaxKind.{SyntaxKind}
use Rattle.rnix_kinds.specs.declared.kinds.SyntaxKind.TheVariants.{TOKEN_COMMA, TOKEN_CUR_POS, TOKEN_DOT, TOKEN_IDENT, TOKEN_INHERIT, TOKEN_INTERPOL_START, TOKEN_L_BRACE, TOKEN_L_PAREN, TOKEN_PATH_ABS, TOKEN_PATH_HOME, TOKEN_PATH_REL, TOKEN_SEMICOLON, TOKEN_STRING_END}
use Rattle.rnix_kinds.specs.declared.kinds.SyntaxKind.TheVariants.{NODE_ATTR_SET, NODE_ATTRPATH, NODE_ATTRPATH_VALUE, NODE_CUR_POS, NODE_IDENT, NODE_INHERIT, NODE_INHERIT_FROM, NODE_INTERPOL, NODE_LITERAL, NODE_PAT_ENTRY, NODE_PATTERN, NODE_PATH_ABS, NODE_PATH_HOME, NODE_PATH_REL, NODE_ROOT, NODE_STRING}
use Rattle.rnix_kinds.{specs.SyntaxKind.is_fn_arg, proofs.AllKinds.implied}
use Rattle.rnix_green.specs.{Equality.same_kind, Forest.{Forest, empty, leaf, node}}
use Rattle.rnix_grammar.specs.declared.rules.Part.TheVariants.{Attr, EndOr, Entries, Formals, MoreAttrs, Names, PathPieces, Pieces, TextEnd, Wanted}
use Rattle.rnix_grammar.specs.Grammar as g
use Rattle.rnix_grammar.specs.Reads as read
use Rattle.rnix_grammar.specs.AnnotatedForest.{AnnotatedForest, blank, ◌⊕◌, one_token, one_branch, tokens_in, head_kind, end_from, touches}
use Rattle.rnix_grammar.specs.{OperandStarts.second_kind, Yield.kind_of_token, Tables.{is_or, depth_limit}}
use Rattle.rnix_grammar.specs.{TokenKinds.{is_path_piece, is_piece_start}, Nest.nest, PathPieces.{joins, joins_first, ArePaths}}
use Rattle.rnix_grammar.specs.{NodeClasses.{is_expression, is_plain_literal}, Reads.ReadsRoot}
use Rattle.rnix_grammar.specs.Rules.{Row, done, ◌·◌, only, after, begins_attr}
use Rattle.rnix_proof_lemmas.proofs.{Basics.{true_is_not_false, choice}, KindsOfNodes.{keeps_kind, fits_expression, unreported}}
use Rattle.rnix_proof_lemmas.proofs.PlainTables.{binds_at_most, is_no_dot}
use Rattle.rnix_proof_completeness.proofs.OverTokens.{Over, over_leaf, over_node, over_nothing, IsRead, token_read, node_read, node_reads, opened_so}
use Rattle.rnix_proof_completeness.proofs.PartReads.{Follow, room, Rest, Any, node_of, Next, next_leaf, next_end, next_any, follows_by, plain_node, next_more, anything, finished, leaf_on, item, Part, part_on}
use Rattle.rnix_proof_completeness.proofs.GoodOperands.{Good, GoodAtom, good_atom, good_looser, good_node, wide, next_node, argument_opens, operand_on, series_on, first_on, begins_leaf, operand_at, counted_fits, operand_expected}
use Rattle.rnix_proof_completeness.proofs.NamesAndBraces.{name_kind, entries_open, Covers, covers_leaf}
use Rattle.rnix_proof_completeness.proofs.OperatorReadings.{ends, keeps_token_kind, select_good, has_attr_good, binary_good, apply_good, apply_or_good, name_node}
use Rattle.rnix_proof_completeness.proofs.GrammarParts.{Gathers, GoodAttr, GoodAttrpath, GoodFormals, GoodItems, GoodNames, GoodParameter, PathReads, attr_new, entry_node, entry_on, good, in_braces, in_let, lambda_begins, let_kind, literal_after, literal_begins, name_begins, name_part, names_after, no_brace, no_interpol, no_piece, old_let_kind, part_leaf, part_node, path_node, pattern_end_rest, piece_expected, unary_level}

mutual
  -- an expression of the grammar is read at its level
  strict_good : {n : ℕ} {k : SyntaxKind} {c : Forest} → g.Strict n k c → Good n k c
  strict_good (g.looser l h) = good_looser l (strict_good h)
  strict_good (g.atom h) = good_atom (atom_reads h)
  strict_good (g.select a q) = select_good (atom_reads a) (part_on refl refl (λ b x. refl) (λ x b. refl) (attrpath_reads q).part
      (next_end (follows_by (binds_at_most 15) is_no_dot refl refl)) (ends refl (λ n. refl) (λ b. refl)))
  strict_good (g.select_or a q h) = select_good (atom_reads a) (part_on refl refl (λ b x. refl) (λ x b. refl) (attrpath_reads q).part (next_leaf refl)
      (item refl (λ b. refl) (λ x. tt) (operand_on (strict_good h) refl (next_end (λ o z. z)) finished)))
  strict_good (g.apply_or a h) = apply_or_good (atom_reads a) h
  strict_good (g.apply h i) = apply_good (strict_good h) (strict_good i)
  strict_good (g.negate h) = good 14 13 refl refl (plain_node refl (item refl (λ b. refl) (λ x. tt)
      (operand_on (strict_good h) refl (next_end (λ o z. z)) finished)))
      (unary_level 14 (λ x f. refl)) (begins_leaf 14 (λ b f. refl) refl (λ text h us w o z. refl))
  strict_good (g.has_attr h q) = has_attr_good (strict_good h) (part_on refl refl (λ b x. refl) (λ x b. refl) (attrpath_reads q).part
      (next_end (follows_by (binds_at_most 13) is_no_dot refl refl)) finished)
  strict_good (g.binary e h i) = binary_good e (strict_good h) (strict_good i)
  strict_good (g.invert h) = good 9 8 refl refl (plain_node refl (item refl (λ b. refl) (λ x. tt)
      (operand_on (strict_good h) refl (next_end (λ o z. z)) finished)))
      (unary_level 9 (λ x f. refl)) (begins_leaf 9 (λ b f. refl) refl (λ text h us w o z. refl))
  strict_good (g.lambda h i) =
      let w = parameter_reads h in
      good 0 0 refl refl (node_of refl refl (first_on {H = Any} w.goes refl (λ m ts w. tt) w.new (λ b o. tt) w.node (next_leaf refl)
      (item refl (λ b. refl) (λ x. tt) (operand_on (strict_good i) refl (next_end (λ o z. z)) finished))))
      (λ b o. refl) (λ b f us o z. lambda_begins h w.known b f us o)
  strict_good (g.legacy_let h) = good 0 0 refl refl (plain_node refl (item refl (λ b. refl) (λ x. tt) (item refl (λ b. refl) (λ x. tt)
      (entries_rest h in_braces (item refl (λ b. refl) (λ x. tt) finished)))))
      (λ b o. refl) (begins_leaf 0 (λ b f. refl) refl (λ text h us w o z. old_let_kind h us o))
  strict_good (g.let_in h i) = good 0 0 refl refl (plain_node refl (item refl (λ b. refl) (λ x. tt)
      (entries_rest h in_let (item refl (λ b. refl) (λ x. tt) (operand_on (strict_good i) refl (next_end (λ o z. z)) finished)))))
      (λ b o. refl) (begins_leaf 0 (λ b f. refl) refl (λ text e us w o z. let_kind (head_kind (tokens_in e ++ us))
      ((entries_next {F = binds_at_most 16} h (next_leaf refl)).next e us o z)))
  strict_good (g.with_scope h i) = good 0 0 refl refl (plain_node refl (item refl (λ b. refl) (λ x. tt) (operand_on (strict_good h) refl (next_leaf refl)
      (item refl (λ b. refl) (λ x. tt) (operand_on (strict_good i) refl (next_end (λ o z. z)) finished)))))
      (λ b o. refl) (begins_leaf 0 (λ b f. refl) refl (λ text h us w o z. refl))
  strict_good (g.assertion h i) = good 0 0 refl refl (plain_node refl (item refl (λ b. refl) (λ x. tt) (operand_on (strict_good h) refl (next_leaf refl)
      (item refl (λ b. refl) (λ x. tt) (operand_on (strict_good i) refl (next_end (λ o z. z)) finished)))))
      (λ b o. refl) (begins_leaf 0 (λ b f. refl) refl (λ text h us w o z. refl))
  strict_good (g.if_else h i j) = good 0 0 refl refl (plain_node refl (item refl (λ b. refl) (λ x. tt) (operand_on (strict_good h) refl (next_leaf refl)
      (item refl (λ b. refl) (λ x. tt) (operand_on (strict_good i) refl (next_leaf refl)
      (item refl (λ b. refl) (λ x. tt) (operand_on (strict_good j) refl (next_end (λ o z. z)) finished)))))))
      (λ b o. refl) (begins_leaf 0 (λ b f. refl) refl (λ text h us w o z. refl))

  atom_reads : {k : SyntaxKind} {c : Forest} → g.Atom k c → GoodAtom k c
  atom_reads (g.paren h) = record {
    atom = refl;
    node = plain_node refl (item refl (λ b. refl) (λ x. tt) (operand_on (strict_good h) refl (next_leaf refl) (item refl (λ b. refl) (λ x. tt) finished)));
    begins = begins_leaf 16 (λ b f. refl) refl (λ text h us w o z. refl);
  }
  atom_reads (g.set h) = record {
    atom = refl;
    node = plain_node refl (item refl (λ b. refl) (λ x. tt) (entries_rest h in_braces (item refl (λ b. refl) (λ x. tt) finished)));
    begins = begins_leaf 16 (λ b f. refl) refl (λ text e us w o z. ap (λ w. if w then NODE_PATTERN else NODE_ATTR_SET) (entries_open h e us o z));
  }
  atom_reads (g.rec_set h) = record {
    atom = refl;
    node = plain_node refl (item refl (λ b. refl) (λ x. tt) (item refl (λ b. refl) (λ x. tt)
        (entries_rest h in_braces (item refl (λ b. refl) (λ x. tt) finished))));
    begins = begins_leaf 16 (λ b f. refl) refl (λ text h us w o z. refl);
  }
  atom_reads (g.list h) = record {
    atom = refl;
    node = plain_node refl (item refl (λ b. refl) (λ x. tt) (items_read h).rest);
    begins = begins_leaf 16 (λ b f. refl) refl (λ text h us w o z. refl);
  }
  atom_reads (g.string h) = record {
    atom = refl;
    node = plain_node refl (item refl (λ b. refl) (λ x. tt) (pieces_rest h));
    begins = begins_leaf 16 (λ b f. refl) refl (λ text h us w o z. refl);
  }
  atom_reads (g.path_abs h) = record {
    atom = refl;
    node = path_node NODE_PATH_ABS TOKEN_PATH_ABS refl refl refl refl (λ n ts. tt) (λ x o. tt) refl (path_end_reads h);
    begins = begins_leaf 16 (λ b f. refl) refl (λ text h us w o z. refl);
  }
  atom_reads (g.path_rel h) = record {
    atom = refl;
    node = path_node NODE_PATH_REL TOKEN_PATH_REL refl refl refl refl (λ n ts. tt) (λ x o. tt) refl (path_end_reads h);
    begins = begins_leaf 16 (λ b f. refl) refl (λ text h us w o z. refl);
  }
  atom_reads (g.path_home h) = record {
    atom = refl;
    node = path_node NODE_PATH_HOME TOKEN_PATH_HOME refl refl refl refl (λ n ts. tt) (λ x o. tt) refl (path_end_reads h);
    begins = begins_leaf 16 (λ b f. refl) refl (λ text h us w o z. refl);
  }
  atom_reads g.path_search = record {
    atom = refl;
    node = plain_node refl (item refl (λ b. refl) (λ x. tt) finished);
    begins = begins_leaf 16 (λ b f. refl) refl (λ text h us w o z. refl);
  }
  atom_reads (g.literal {j = j} {s = s} h) = record {
    atom = refl;
    node = plain_node refl (item (sym (keeps_kind NODE_LITERAL (kind_of_token j s) refl ∙ keeps_token_kind is_plain_literal refl j s h)) (λ b. refl) (λ x. tt)
        (subst (λ q. Rest NODE_LITERAL q Any (binds_at_most 16) empty) (sym (literal_after j h)) finished));
    begins = begins_leaf 16 (λ b f. refl) refl (λ text e us w o z. literal_begins j s text (head_kind (tokens_in e ++ us))
        (second_kind (tokens_in e ++ us)) h);
  }
  atom_reads (g.named {s = s} h i) = record {
    atom = refl;
    node = name_node;
    begins = begins_leaf 16 (λ b f. refl) refl (name_begins TOKEN_IDENT NODE_IDENT s (name_kind s h)
        (ap (λ w. if w then NODE_CUR_POS else NODE_IDENT) i));
  }
  atom_reads (g.current_position {s = s} h) = record {
    atom = refl;
    node = plain_node refl (item refl (λ b. refl) (λ x. tt) finished);
    begins = begins_leaf 16 (λ b f. refl) refl (name_begins TOKEN_CUR_POS NODE_CUR_POS s refl
        (ap (λ w. if w then NODE_CUR_POS else NODE_IDENT) h));
  }

  items_read : {f : Forest} → g.Items f → GoodItems f
  items_read g.list_end = record { rest = item refl (λ b. refl) (λ x. tt) finished; next = next_leaf refl }
  items_read (g.item h r) =
      let w = items_read r in
      record {
        rest = series_on (strict_good h) refl refl (λ b. refl) w.next w.rest;
        next = next_node is_fn_arg (implied is_fn_arg (λ i. binds_at_most 15 (Some i)) refl) (argument_opens (strict_good h)) (next_more (wide 15) w.next);
      }

  pieces_rest : {F : Follow} {f : Forest} → g.Pieces f → Rest NODE_STRING (Pieces · Wanted TOKEN_STRING_END · done) Any F f
  pieces_rest g.string_end = item refl (λ b. refl) (λ x. tt) finished
  pieces_rest (g.content r) = item refl (λ b. refl) (λ x. tt) (pieces_rest r)
  pieces_rest (g.interpolated h r) = part_on refl refl (λ b x. refl) (λ x b. refl) (interpol_part h) next_any (pieces_rest r)

  path_end_reads : {f : Forest} → g.PathEnd f → PathReads (EndOr NODE_INTERPOL · PathPieces · done) joins_first f
  path_end_reads g.path_end p sound d n x b us over_nothing a m j z = (EndOr NODE_INTERPOL · PathPieces · done, read.end, (refl, no_interpol n us z))
  path_end_reads (g.path_on {c = c} {f = t} i r) p sound d n x b us (over_node {b = y} {f = h} o v) a m j z =
      let w = interpol_part i in
      let u = room p NODE_INTERPOL c t d m in
      node_read refl (λ e. absurd (true_is_not_false (sym e))) (w.node.reads d n y (tokens_in h ++ us) o refl a.1 u.0 refl)
      (opened_so (EndOr NODE_INTERPOL · PathPieces · done) n true (same_kind TOKEN_INTERPOL_START) (λ b. refl) (tokens_in y ++ (tokens_in h ++ us))
      (w.opens y (tokens_in h ++ us) o))
      tt tt refl (path_pieces_read r p sound d (end_from n (tokens_in y)) (x ⊕ one_branch NODE_INTERPOL y) h us v a.2 u.1
      (and_parts (touches n (tokens_in y ++ (tokens_in h ++ us))) (joins (end_from n (tokens_in y)) h us) j).1 z)

  path_pieces_read : {f : Forest} → g.PathPieces f → PathReads (PathPieces · done) joins f
  path_pieces_read g.pieces_end p sound d n x b us over_nothing a m j z = (PathPieces · done, read.end, (refl, no_piece n us j))
  path_pieces_read (g.piece {j = i} {s = s} l r) p sound d n x b us (over_leaf {x = y} {f = h} e w o) a m j z =
      let kind_kept : y.kind ≡ i = e ∙ keeps_token_kind is_path_piece refl i s l in
      let u = and_parts (nat_eq y.start n) (joins y.end h us) j in
      token_read (sym (keeps_kind p y.kind sound ∙ kind_kept)) (ap (λ w. w && is_piece_start y.kind) u.0 ∙ ap is_piece_start kind_kept
      ∙ implied is_path_piece is_piece_start refl i l) tt
      (subst (λ w. IsRead p d y.end (only (w || same_kind NODE_INTERPOL i) (PathPieces · done)) (x ⊕ one_token i y) h us) (sym l)
      (path_pieces_read r p sound d y.end (x ⊕ one_token i y) h us o a m u.1 z))
  path_pieces_read (g.piece_on {c = c} {f = t} i r) p sound d n x b us (over_node {b = y} {f = h} o v) a m j z =
      let w = interpol_part i in
      let u = room p NODE_INTERPOL c t d m in
      let k = and_parts (touches n (tokens_in y ++ (tokens_in h ++ us))) (joins (end_from n (tokens_in y)) h us) j in
      node_read refl (λ e. absurd (true_is_not_false (sym e))) (w.node.reads d n y (tokens_in h ++ us) o refl a.1 u.0 refl)
      (piece_expected n (tokens_in y ++ (tokens_in h ++ us)) k.0 (w.opens y (tokens_in h ++ us) o))
      tt tt refl (path_pieces_read r p sound d (end_from n (tokens_in y)) (x ⊕ one_branch NODE_INTERPOL y) h us v a.2 u.1 k.1 z)

  interpol_part : {c : Forest} → g.Interpol c → Part anything (same_kind TOKEN_INTERPOL_START) NODE_INTERPOL c
  interpol_part (g.interpol h) = part_leaf refl (plain_node refl (item refl (λ b. refl) (λ x. tt)
      (operand_on (strict_good h) refl (next_leaf refl) (item refl (λ b. refl) (λ x. tt) finished))))

  attr_reads : {k : SyntaxKind} {c : Forest} → g.Attr k c → GoodAttr k c
  attr_reads (g.named_attr {s = s}) = record { attr = refl; part = part_leaf (choice (λ i. begins_attr i ≡ true) (is_or s) refl refl) name_node }
  attr_reads (g.string_attr h) = record { attr = refl; part = part_leaf refl (plain_node refl (item refl (λ b. refl) (λ x. tt) (pieces_rest h))) }
  attr_reads (g.dynamic_attr h) = record {
    attr = refl;
    part = part_leaf refl (plain_node refl (item refl (λ b. refl) (λ x. tt)
        (series_on (strict_good h) refl refl (λ b. refl) (next_leaf refl) (item refl (λ b. refl) (λ x. tt) finished))));
  }

  attrpath_reads : {f : Forest} → g.Attrpath f → GoodAttrpath f
  attrpath_reads (g.last_attr {k = k} {c = c} h) =
      let w = attr_reads h in
      let r : Rest NODE_ATTRPATH (Attr · MoreAttrs · done) Any is_no_dot (node k c empty) =
      part_on (ap (λ v. only v (MoreAttrs · done)) w.attr) refl (λ b x. refl) (attr_new k w.attr) w.part next_any (ends refl (λ n. refl) (λ b. refl)) in
      record { rest = r; part = part_node w.part (plain_node refl r) }
  attrpath_reads (g.attr_dot {k = k} {c = c} {f = f} {s = s} h q) =
      let w = attr_reads h in
      let r : Rest NODE_ATTRPATH (Attr · MoreAttrs · done) Any is_no_dot (node k c (leaf TOKEN_DOT s f)) =
      part_on (ap (λ v. only v (MoreAttrs · done)) w.attr) refl (λ b x. refl) (attr_new k w.attr) w.part next_any
      (item refl (λ b. refl) (λ x. tt) (attrpath_reads q).rest) in
      record { rest = r; part = part_node w.part (plain_node refl r) }

  entries_rest : {p closer : SyntaxKind} {r : Row} {F : Follow} {e f : Forest} → g.Entries e f → Gathers closer r → Rest p (Entries closer · r) Any F f
      → Rest p (Entries closer · r) Any F e
  entries_rest g.entries_end o w = w
  entries_rest (g.inheriting h r) o w = part_on o.inherit_stays refl o.inherit_own (λ x b. refl) (inherit_part h) next_any (entries_rest r o w)
  entries_rest (g.binding h r) o w = part_on o.bind_stays refl o.bind_own (λ x b. refl) (binding_part h) next_any (entries_rest r o w)

  entries_next : {F : Follow} {e f : Forest} → g.Entries e f → Next no_brace F f → Next no_brace F e
  entries_next g.entries_end w = w
  entries_next (g.inheriting h r) w = next_node {M = anything} (same_kind TOKEN_INHERIT) (implied (same_kind TOKEN_INHERIT) (λ i. no_brace (Some i)) refl)
      (λ b us o z. (inherit_part h).opens b us o) next_any
  entries_next (g.binding h r) w = next_node {M = anything} begins_attr (implied begins_attr (λ i. no_brace (Some i)) refl)
      (λ b us o z. (binding_part h).opens b us o) next_any

  binding_part : {c : Forest} → g.Binding c → Part anything begins_attr NODE_ATTRPATH_VALUE c
  binding_part (g.bind q h) =
      let w = (attrpath_reads q).part in
      part_node w (plain_node refl (part_on refl refl (λ b x. refl) (λ x b. refl) w (next_leaf refl) (item refl (λ b. refl) (λ x. tt)
      (operand_on (strict_good h) refl (next_leaf refl) (item refl (λ b. refl) (λ x. tt) finished)))))

  inherit_part : {c : Forest} → g.Inherit c → Part anything (same_kind TOKEN_INHERIT) NODE_INHERIT c
  inherit_part (g.inherit_names h) = part_leaf refl (plain_node refl (item refl (λ b. refl) (λ x. tt) (names_read h).source))
  inherit_part (g.inherit_from q h) = part_leaf refl (plain_node refl (item refl (λ b. refl) (λ x. tt)
      (part_on refl refl (λ b x. refl) (λ x b. refl) (source_part q) next_any (names_read h).names)))

  source_part : {c : Forest} → g.Source c → Part anything (same_kind TOKEN_L_PAREN) NODE_INHERIT_FROM c
  source_part (g.source h) = part_leaf refl (plain_node refl (item refl (λ b. refl) (λ x. tt)
      (operand_on (strict_good h) refl (next_leaf refl) (item refl (λ b. refl) (λ x. tt) finished))))

  names_read : {f : Forest} → g.Names f → GoodNames f
  names_read g.names_end = record { source = item refl (λ b. refl) (λ x. tt) finished; names = item refl (λ b. refl) (λ x. tt) finished }
  names_read (g.inherited {k = k} h r) =
      let w = attr_reads h in
      let v = (names_read r).names in
      record {
        source = part_on (names_after k w.attr) refl (λ b x. refl) (attr_new k w.attr) w.part next_any v;
        names = part_on (ap (λ u. if u then Names · Wanted TOKEN_SEMICOLON · done else after (Wanted TOKEN_SEMICOLON · done) k) w.attr) refl (λ b x. refl)
            (attr_new k w.attr) w.part next_any v;
      }

  parameter_reads : {k : SyntaxKind} {c : Forest} → g.Parameter k c → GoodParameter k c
  parameter_reads (g.parameter n) = record {
    known = refl;
    goes = refl;
    new = λ x b. refl;
    node = plain_node refl (part_on refl refl (λ b x. refl) (λ x b. refl) (name_part n) next_any finished);
  }
  parameter_reads (g.pattern h) = record {
    known = refl;
    goes = refl;
    new = λ x b. refl;
    node = node_of {G = Covers []} refl (λ n m. refl) (leaf_on refl (λ b. refl) (λ x c. tt) (λ x y c. covers_leaf [] x TOKEN_L_BRACE y c)
        (formals_read h).first);
  }
  parameter_reads (g.bound_pattern n h) = record {
    known = refl;
    goes = refl;
    new = λ x b. refl;
    node = node_of refl refl (first_on {H = Covers []} refl refl (λ m ts w. tt) (λ x b. refl) (λ b o n m. refl)
        (plain_node refl (part_on refl refl (λ b x. refl) (λ x b. refl) (name_part n) next_any (item refl (λ b. refl) (λ x. tt) finished))) (next_any)
        (leaf_on refl (λ b. refl) (λ x c. tt) (λ x y c. covers_leaf [] x TOKEN_L_BRACE y c) (formals_read h).first));
  }

  formals_read : {bound : Bool} {names : List (List ℕ)} {f : Forest} → g.Formals bound names f → GoodFormals bound names f
  formals_read (g.formals_end w) = record {
    first = item refl (λ b. refl) (λ x. tt) (pattern_end_rest w);
    inside = item refl (λ b. refl) (λ x. tt)
        (pattern_end_rest w);
  }
  formals_read (g.ellipsis w) = record {
    first = item refl (λ b. refl) (λ x. tt) (item refl (λ b. refl) (λ x. tt) (pattern_end_rest w));
    inside = item refl (λ b. refl) (λ x. tt) (item refl (λ b. refl) (λ x. tt) (pattern_end_rest w));
  }
  formals_read (g.last_entry {names = names} m h w) =
      let e = entry_part h in
      record {
        first = entry_on names refl refl (λ b x. refl) m h e (next_leaf refl) (item refl (λ b. refl) (λ x. tt) (pattern_end_rest w));
        inside = entry_on names refl refl (λ b x. refl) m h e (next_leaf refl) (item refl (λ b. refl) (λ x. tt) (pattern_end_rest w));
      }
  formals_read (g.entry_comma {x = x} {names = names} m h r) =
      let e = entry_part h in
      let v = (formals_read r).inside in
      record {
        first = entry_on names refl refl (λ b x. refl) m h e (next_leaf refl)
            (leaf_on refl (λ b. refl) (λ x c. tt) (λ w y c. covers_leaf (x ∷ names) w TOKEN_COMMA y c) v);
        inside = entry_on names refl refl (λ b x. refl) m h e (next_leaf refl)
            (leaf_on refl (λ b. refl) (λ x c. tt) (λ w y c. covers_leaf (x ∷ names) w TOKEN_COMMA y c) v);
      }

  entry_part : {x : List ℕ} {c : Forest} → g.Formal x c → Part (binds_at_most 0) (same_kind TOKEN_IDENT) NODE_PAT_ENTRY c
  entry_part (g.entry n) = part_node (name_part n) (entry_node (ends refl (λ n. refl) (λ b. refl)))
  entry_part (g.default_entry n h) = part_node (name_part n) (entry_node
      (item refl (λ b. refl) (λ x. tt) (operand_on (strict_good h) refl (next_end (λ o z. z)) finished)))

-- an expression that nests within the limit, and whose pieces of paths touch, is a reading of its items without errors
pub expression_reads : {t : Forest} → g.IsExpression t → (f : AnnotatedForest) → Over t f → ArePaths f [] → nest NODE_ROOT t ≤ depth_limit → ReadsRoot f []
expression_reads (g.expression {k = k} {c = c} h) f (over_node {b = b} o over_nothing) a m =
    let w = strict_good h in
    let e : is_expression k ≡ true = fits_expression 0 k w.fit in
    let u = counted_fits true NODE_ROOT k c empty 0 refl e (omega (arith, m)) in
    node_reads (ap (λ v. only v (TextEnd · done)) w.fit) u.0 ((good_node w).reads 1 0 b [] o a.0 a.1 u.1 refl)
    (operand_expected 0 true (TextEnd · done) 0 (tokens_in b ++ [])) tt (operand_at w b [] o refl)
    (unreported k blank b e) read.end
