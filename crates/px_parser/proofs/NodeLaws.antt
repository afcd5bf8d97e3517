-- The numbers of the nodes of a module are indices of its tokens, each once: one lemma for each form of the grammar.
use Rattle.std.proofs.Common.{◌≡◌, ℕ, zero, suc, ◌<◌, ◌≤◌, List, [], ◌∷◌, ◌++◌, Option, Some, None, map, length, refl, sym, ap, ◌∙◌, subst, arith, append_assoc, append-nil, false}
use Rattle.std.proofs.lemmas.List.Elements.{All-weaker}
use Rattle.std.proofs.lemmas.Option.{none-some}
use Rattle.px_base.specs.declared.refusals.Span.{Span}
use Rattle.px_lexer.specs.declared.spelling.Keyword.{Keyword}
use Rattle.px_lexer.specs.declared.spelling.Keyword.TheVariants as word
use Rattle.px_lexer.specs.declared.spelling.Operator.TheVariants as sign
use Rattle.px_lexer.specs.declared.token_list.TokenKind.{TokenKind}
use Rattle.px_lexer.specs.declared.token_list.TokenKind.TheVariants as kind
use Rattle.px_tree.specs.declared.expressions.Expr.{Expr}
use Rattle.px_tree.specs.declared.expressions.ExprForm.TheVariants as form
use Rattle.px_tree.specs.declared.statements.Stmt.{Stmt}
use Rattle.px_tree.specs.declared.statements.StmtForm.{StmtForm}
use Rattle.px_tree.specs.declared.statements.StmtForm.TheVariants as statement
use Rattle.px_tree.specs.declared.modules.Comment.{Comment}
use Rattle.px_tree.specs.declared.modules.FunctionKind.{FunctionKind}
use Rattle.px_tree.specs.declared.modules.FunctionKind.TheVariants as function_kind
use Rattle.px_tree.specs.declared.modules.ResultType.TheVariants as result_type
use Rattle.px_tree.specs.declared.modules.ExceptionForm.TheVariants as exception
use Rattle.px_tree.specs.declared.modules.ModuleItem.TheVariants as module_item
use Rattle.px_lexer.specs.Terminals.{Terminal}
use Rattle.px_exprs.specs.Typings.{IsTyping}
use Rattle.px_exprs.specs.Grammar.{IsExpr}
use Rattle.px_exprs.specs.NodeNumbers.{node_numbers}
use Rattle.px_exprs.proofs.Agreement.{agree_same}
use Rattle.px_exprs.proofs.Keeping.{expr_forward}
use Rattle.px_exprs.proofs.NodeEquations.{of_node, of_form_Tuple}
use Rattle.px_exprs.proofs.NodeLaws.{numbers_distinct}
use Rattle.px_exprs.proofs.NodeRanges.{IsWithin, Fits, nothing, wider, before, both, between}
use Rattle.px_parser.specs.Laws.{ModuleNumbersAreDistinct}
use Rattle.px_parser.specs.ModuleNumbers.{numbers_in_part, numbers_in_each, typing_numbers, declarator_numbers, declaration_numbers, statement_numbers, decorator_numbers, result_numbers, parameter_numbers, exception_numbers, function_numbers, imported_numbers, numbers_in_import, import_numbers, item_numbers, module_numbers}
use Rattle.px_parser.specs.Shapes.{Shape, Either, Listed, Of, Nested}
use Rattle.px_parser.specs.StatementGrammar.{statement_node, expr_list, CommaList, IsWithinLimit, Exprs, IsTarget, Targets, loop_target, LoopTargets, Assignment, Augmentation, Return, InBrackets, Raise, Global, SimpleForm, Simple, Line, Decl, Decls, Declared, DeclareLine, GroupLine, DeclareGroup, Declare, Body, Guarded, Armed, arm_of, If, While, For, LockWord, With, alone, StatementWith, joined, StatementsWith, IndentedWith, Unseen, BlockWithin, Block, Statement}
use Rattle.px_parser.specs.ModuleGrammar.{Numbered, Imported, WholeImport, PartImport, ImportLine, DecoratorLine, Parameter, Parameters, Result, Exception, DefHead, CHead, Tail, Rest, FunctionForm, one_import, one_function, Item, ModuleForm}
use Rattle.px_parser.specs.Parsing.{strict}
use Rattle.px_parser.proofs.Shapely.{good_seq, sound_token, sound_name, sound_soft, sound_of, sound_or, sound_separated}
use Rattle.px_parser.proofs.CompoundShapes.{sound_lock}
use Rattle.px_parser.proofs.TypedNames.{typing_kept}
use Rattle.px_parser.proofs.TargetsLaws.{target_is_expr}
use Rattle.px_parser.proofs.TargetsShapes.{good_augmented}
use Rattle.px_parser.proofs.ImportShapes.{good_dotted, good_alias, good_import_word}
use Rattle.px_parser.proofs.FunctionShapes.{good_decorator_name, good_not_none, good_lock_form, good_c_word}
use Rattle.px_parser.proofs.NodeEquations.{form_numbers, arm_numbers, block_numbers, of_statement, of_arm, of_Assign, of_Augment, of_Pass, of_Break, of_Continue, of_Return, of_Raise, of_Global, of_If, of_While, of_For, of_WithGil, of_WithNogil, of_Declare, of_DeclareGroup}
use Rattle.px_parser.proofs.NodeCounts.{same_fits, others_fit, moved, last_first, ended, unended, each_append, Counts, counts_none, counts_gives, counts_then, counts_seq, counts_first, counts_second, counts_placed, counts_either, counts_of, counts_many, counts_after, counts_before, counts_or, counts_maybe, counts_several, counts_separated, counts_elements, behind_name, behind_seq, behind_after, behind_placed, counts_here, counts_mark, led_part, counts_here_maybe, led_list, counts_here_many}

-- Expressions and types

expr_fits : {ts : List Terminal} {i d j : ℕ} {e : Expr} → IsExpr ts i e d j → Fits (node_numbers e) i j
expr_fits {ts} {i} {d} {j} {e} h = let law = numbers_distinct ts i j e d h in record { within = law.0; distinct = law.1 }

counts_expr : Counts IsWithinLimit node_numbers
counts_expr = record { forward = λ h. omega (arith, expr_forward h.read); fits = λ h. expr_fits h.read }

counts_target : Counts (Nested IsTarget) node_numbers
counts_target = record { forward = λ h. omega (arith, expr_forward (target_is_expr h.read)); fits = λ h. expr_fits (target_is_expr h.read) }

counts_bracketed : Counts (Nested (InBrackets IsExpr)) node_numbers
counts_bracketed = record { forward = λ h. omega (arith, expr_forward h.read.read); fits = λ h. expr_fits h.read.read }

counts_typing : Counts (Nested IsTyping) typing_numbers
counts_typing = record {
  forward = λ {ts} h. omega (arith, (typing_kept {us = ts} 0 (agree_same ts) h.read).0);
  fits = λ {ts} h. same_fits (ap (λ n. n ∷ []) h.read.number) (before (typing_kept {us = ts} 0 (agree_same ts) h.read).0 nothing);
}

-- Lists of expressions, whose number is the index of the first comma

list_fits : (at : Span) (first : Expr) (k : ℕ) (others : Option (List Expr)) (i j : ℕ) → Fits (node_numbers first ++ led_part (numbers_in_each node_numbers) k others) i j → Fits (node_numbers (expr_list at first k others)) i j
list_fits at first k None i j h = unended (node_numbers first) h
list_fits at first k (Some others) i j h =
    same_fits (of_node k at (form.Tuple (first ∷ others)) ∙ ap (λ ns. k ∷ ns) (of_form_Tuple (first ∷ others))) (moved (node_numbers first) (numbers_in_each node_numbers others) k h)

counts_list : {X : Shape Expr} → Counts X node_numbers → Counts (CommaList X) node_numbers
counts_list x =
    counts_of _ (counts_placed (counts_seq x (counts_here_maybe (kind.Operator sign.Comma) (counts_elements (kind.Operator sign.Comma) x)))) (λ p i j h. list_fits p.0 p.1.0 p.1.1.0 p.1.1.1 i j h)

counts_exprs : Counts Exprs node_numbers
unfolding Exprs
counts_exprs = counts_list counts_expr

counts_targets : Counts Targets node_numbers
unfolding Targets
counts_targets = counts_list counts_target

loop_fits : (at : Span) (first : Expr) (k : ℕ) (others : List Expr) (i j : ℕ) → Fits (node_numbers first ++ led_list node_numbers k others) i j → Fits (node_numbers (loop_target at first k others)) i j
loop_fits at first k [] i j h = unended (node_numbers first) h
loop_fits at first k (second ∷ others) i j h =
    same_fits (of_node k at (form.Tuple (first ∷ second ∷ others)) ∙ ap (λ ns. k ∷ ns) (of_form_Tuple (first ∷ second ∷ others))) (moved (node_numbers first) (numbers_in_each node_numbers (second ∷ others)) k h)

counts_loop_targets : Counts LoopTargets node_numbers
unfolding LoopTargets
counts_loop_targets = counts_of _ (counts_placed (counts_seq counts_target (counts_here_many (kind.Operator sign.Comma) counts_target))) (λ p i j h. loop_fits p.0 p.1.0 p.1.1.0 p.1.1.1 i j h)

-- Simple statements

counts_assignment : Counts Assignment form_numbers
unfolding Assignment
counts_assignment = counts_of _ (counts_seq (counts_many (counts_before (kind.Operator sign.Equal) counts_targets)) counts_exprs) (λ p i j h. same_fits (of_Assign p.0 p.1) h)

counts_augmentation : Counts Augmentation form_numbers
unfolding Augmentation
counts_augmentation = counts_of _ (counts_seq counts_target (counts_second good_augmented.sound counts_expr)) (λ p i j h. same_fits (of_Augment p.0 p.1.0 p.1.1) h)

counts_return : Counts Return form_numbers
unfolding Return
counts_return = counts_after _ (counts_of _ (counts_maybe counts_exprs) (λ value i j h. same_fits (of_Return value) h))

counts_raise : Counts Raise form_numbers
unfolding Raise
counts_raise =
    counts_after _
    (counts_of _ (counts_second sound_name (counts_or (numbers_in_part node_numbers) None refl (counts_after _ (counts_before _ (counts_maybe counts_bracketed)))))
    (λ p i j h. same_fits (of_Raise p.0 p.1) h))

counts_global : Counts Global form_numbers
unfolding Global
counts_global = counts_after _ (counts_of _ (counts_none (sound_separated _ sound_name)) (λ names i j h. same_fits (of_Global names) h))

counts_simple_form : Counts SimpleForm form_numbers
unfolding SimpleForm
counts_simple_form =
    counts_either (counts_after _ (counts_gives form_numbers statement.Pass of_Pass))
    (counts_either (counts_after _ (counts_gives form_numbers statement.Break of_Break))
    (counts_either (counts_after _ (counts_gives form_numbers statement.Continue of_Continue)) (counts_either counts_return (counts_either counts_raise (counts_either counts_global (counts_either counts_assignment counts_augmentation))))))

as_statement : (k : ℕ) (at : Span) (f : StmtForm) (ns : List ℕ) {i j : ℕ} → form_numbers f ≡ ns → Fits (k ∷ ns) i j → Fits (statement_numbers (statement_node k at f)) i j
as_statement k at f ns e h = same_fits (of_statement k at f ∙ ap (λ ms. k ∷ ms) e) h

-- a form whose numbers may have the index behind it too
record CountsUpTo {A : Type 0} (X : Shape A) (numbers : A → List ℕ) : Type 0 where
  forward : {limit : ℕ} {ts : List Terminal} {i n j : ℕ} {t : A} → X (strict limit) ts i t n j → i ≤ j
  fits : {limit : ℕ} {ts : List Terminal} {i n j : ℕ} {t : A} → X (strict limit) ts i t n j → Fits (numbers t) i (suc j)

counts_simple : CountsUpTo Simple statement_numbers
unfolding Simple
counts_simple = record {
  forward = λ h. omega (arith, h.read.first.end, counts_simple_form.forward h.read.second.first, h.read.second.second.end);
  fits = λ {i} {j} h.
      let parts = h.read.second in
      let p = h.inner in
      let le = counts_simple_form.forward parts.first in
      let form : Fits (form_numbers p.1.0) i j = wider (counts_simple_form.fits parts.first) (omega (arith, h.read.first.end)) (omega (arith, parts.second.end)) in
      let number : p.1.1 ≡ j = omega (arith, parts.second.counted, parts.second.end) in
      let behind : Fits (j ∷ (form_numbers p.1.0 ++ [])) i (suc j) = between form (nothing {i = suc j} {j = suc j}) (omega (arith, le, h.read.first.end, parts.second.end)) (omega arith) in
      let whole : Fits (p.1.1 ∷ form_numbers p.1.0) i (suc j) = same_fits (ap (λ k. k ∷ form_numbers p.1.0) number ∙ ap (λ ns. j ∷ ns) (sym (append-nil (form_numbers p.1.0)))) behind in
      subst (λ s. Fits (statement_numbers s) i (suc j)) (sym h.tree) (as_statement p.1.1 p.0 p.1.0 (form_numbers p.1.0) refl whole);
}

-- with a token behind each, but maybe the last
up_to_fits : {A : Type 0} {X : Shape A} {f : A → List ℕ} {k : TokenKind} → CountsUpTo X f → {limit : ℕ} {ts : List Terminal} {i n j : ℕ} {xs : List A} → Listed k X (strict limit) ts i xs n j → (i ≤ j) × Fits (numbers_in_each f xs) i (suc j)
up_to_fits {f} x (Listed.last {t} h) = (x.forward h, ended (f t) (x.fits h))
up_to_fits {f} x (Listed.ended {t} h separator) = (omega (arith, x.forward h), wider (ended (f t) (x.fits h)) (omega arith) (omega arith))
up_to_fits x (Listed.more h separator rest) =
    let behind = up_to_fits x rest in
    (omega (arith, x.forward h, behind.0), both (x.fits h) behind.1 (omega (arith, x.forward h)) (omega arith) (omega (arith, behind.0)))

counts_line : Counts Line block_numbers
unfolding Line
counts_line = record {
  forward = λ h. omega (arith, (up_to_fits counts_simple h.read.first).0, h.read.second.end);
  fits = λ {i} {j} h. subst (λ ss. Fits (block_numbers ss) i j) (sym h.tree) (wider (up_to_fits counts_simple h.read.first).1 (omega arith) (omega (arith, h.read.second.end)));
}

-- Declarations

counts_decl : Counts Decl declarator_numbers
unfolding Decl
counts_decl = counts_of _ (counts_here (behind_placed (behind_seq behind_name (counts_maybe (counts_after _ counts_expr))))) (λ p i j h. h)

counts_decls : Counts Decls (numbers_in_each declarator_numbers)
unfolding Decls
counts_decls = counts_separated _ counts_decl

counts_declared : Counts Declared (λ p. p.0.number ∷ (numbers_in_each declarator_numbers p.1.0 ++ p.1.1 ∷ []))
unfolding Declared
counts_declared = counts_seq counts_typing (counts_seq counts_decls (counts_mark kind.Newline))

counts_declare_line : Counts DeclareLine statement_numbers
unfolding DeclareLine
counts_declare_line =
    counts_of _ (counts_here (behind_placed (behind_after (kind.Keyword word.Cdef) counts_declared)))
    (λ p i j h. as_statement p.1.1.1.1 p.1.0 _ (p.0 ∷ (p.1.1.0.number ∷ numbers_in_each declarator_numbers p.1.1.1.0)) (of_Declare _) (last_first (p.0 ∷ (p.1.1.0.number ∷ numbers_in_each declarator_numbers p.1.1.1.0)) p.1.1.1.1 h))

counts_group_line : Counts GroupLine declaration_numbers
unfolding GroupLine
counts_group_line = counts_of _ (counts_placed counts_declared) (λ p i j h. last_first (p.1.0.number ∷ numbers_in_each declarator_numbers p.1.1.0) p.1.1.1 h)

counts_declare_group : Counts DeclareGroup statement_numbers
unfolding DeclareGroup
counts_declare_group =
    counts_of _
    (counts_placed (counts_after (kind.Keyword word.Cdef) (counts_seq (counts_mark (kind.Operator sign.Colon)) (counts_after kind.Newline (counts_after kind.Indent (counts_before kind.Dedent (counts_several counts_group_line)))))))
    (λ p i j h. as_statement p.1.0 p.0 _ (numbers_in_each declaration_numbers p.1.1) (of_DeclareGroup p.1.1) h)

counts_declare : Counts Declare statement_numbers
unfolding Declare
counts_declare = counts_either counts_declare_line counts_declare_group

-- Compound statements

counts_body : {B : Shape (List Stmt)} → Counts B block_numbers → Counts (Body B) (λ p. p.0 ∷ block_numbers p.1)
unfolding Body
counts_body b = counts_seq (counts_mark (kind.Operator sign.Colon)) b

counts_armed : {B : Shape (List Stmt)} (w : Keyword) → Counts B block_numbers → Counts (Armed w B) (λ p. p.0 ∷ (node_numbers p.1.1.0 ++ p.1.1.1.0 ∷ block_numbers p.1.1.1.1))
unfolding Armed Guarded
counts_armed w b = counts_here (behind_placed (behind_after (kind.Keyword w) (counts_seq counts_expr (counts_body b))))

-- the number of the colon is none of an arm's
counts_elif : {B : Shape (List Stmt)} → Counts B block_numbers → Counts (Of arm_of (Armed word.Elif B)) arm_numbers
counts_elif b =
    counts_of _ (counts_armed word.Elif b)
    (λ p i j h. same_fits (of_arm p.0 p.1.0 p.1.1.0 p.1.1.1.1)
    (others_fit p.1.1.1.0 (p.0 ∷ (node_numbers p.1.1.0 ++ block_numbers p.1.1.1.1)) (moved (p.0 ∷ node_numbers p.1.1.0) (block_numbers p.1.1.1.1) p.1.1.1.0 h)))

-- but that of the `if`
if_fits : (k colon : ℕ) (test block elifs otherwise : List ℕ) {i j : ℕ} → Fits ((k ∷ (test ++ colon ∷ block)) ++ (elifs ++ otherwise)) i j → Fits (colon ∷ (((k ∷ (test ++ block)) ++ elifs) ++ otherwise)) i j
if_fits k colon test block elifs otherwise h =
    let behind = elifs ++ otherwise in
    let apart : (k ∷ test) ++ colon ∷ (block ++ behind) ≡ (k ∷ (test ++ colon ∷ block)) ++ behind = sym (append_assoc (k ∷ test) (colon ∷ block) behind) in
    let back : (((k ∷ (test ++ block)) ++ elifs) ++ otherwise) ≡ (k ∷ test) ++ (block ++ behind) =
    append_assoc (k ∷ (test ++ block)) elifs otherwise ∙ append_assoc (k ∷ test) block behind in
    same_fits (ap (λ ns. colon ∷ ns) back) (moved (k ∷ test) (block ++ behind) colon (same_fits apart h))

counts_if : {B : Shape (List Stmt)} → Counts B block_numbers → Counts (If B) statement_numbers
unfolding If
counts_if b =
    counts_of _ (counts_seq (counts_armed word.If b) (counts_seq (counts_many (counts_elif b)) (counts_maybe (counts_after (kind.Keyword word.Else) (counts_after (kind.Operator sign.Colon) b)))))
    (λ p i j h. as_statement p.0.1.1.1.0 p.0.1.0 _ _
    (of_If (arm_of p.0 ∷ p.1.0) p.1.1 ∙ ap (λ ns. (ns ++ numbers_in_each arm_numbers p.1.0) ++ numbers_in_part block_numbers p.1.1) (of_arm p.0.0 p.0.1.0 p.0.1.1.0 p.0.1.1.1.1))
    (if_fits p.0.0 p.0.1.1.1.0 (node_numbers p.0.1.1.0) (block_numbers p.0.1.1.1.1) (numbers_in_each arm_numbers p.1.0) (numbers_in_part block_numbers p.1.1) h))

counts_while : {B : Shape (List Stmt)} → Counts B block_numbers → Counts (While B) statement_numbers
unfolding While Guarded
counts_while b =
    counts_of _ (counts_placed (counts_after (kind.Keyword word.While) (counts_seq counts_expr (counts_body b))))
    (λ p i j h. as_statement p.1.1.0 p.0 _ _ (of_While p.1.0 p.1.1.1) (moved (node_numbers p.1.0) (block_numbers p.1.1.1) p.1.1.0 h))

for_fits : (colon : ℕ) (target value block : List ℕ) {i j : ℕ} → Fits (target ++ (value ++ colon ∷ block)) i j → Fits (colon ∷ (target ++ (value ++ block))) i j
for_fits colon target value block h =
    same_fits (ap (λ ns. colon ∷ ns) (sym (append_assoc target value block))) (moved (target ++ value) block colon (same_fits (append_assoc target value (colon ∷ block)) h))

counts_for : {B : Shape (List Stmt)} → Counts B block_numbers → Counts (For B) statement_numbers
unfolding For
counts_for b =
    counts_of _ (counts_placed (counts_after (kind.Keyword word.For) (counts_seq counts_loop_targets (counts_after (kind.Keyword word.In) (counts_seq counts_exprs (counts_body b))))))
    (λ p i j h. as_statement p.1.1.1.0 p.0 _ _ (of_For p.1.0 p.1.1.0 p.1.1.1.1) (for_fits p.1.1.1.0 (node_numbers p.1.0) (node_numbers p.1.1.0) (block_numbers p.1.1.1.1) h))

-- either statement has the numbers of its block
with_numbers : (limit : ℕ) (ts : List Terminal) (i n j : ℕ) (w : List Stmt → StmtForm) → LockWord (strict limit) ts i w n j → (ss : List Stmt) → form_numbers (w ss) ≡ block_numbers ss
unfolding LockWord
with_numbers limit ts i n j w (Either.left h) ss = ap (λ (f : List Stmt → StmtForm). form_numbers (f ss)) h.tree ∙ of_WithGil ss
with_numbers limit ts i n j w (Either.right h) ss = ap (λ (f : List Stmt → StmtForm). form_numbers (f ss)) h.tree ∙ of_WithNogil ss

counts_with : {B : Shape (List Stmt)} → Counts B block_numbers → Counts (With B) statement_numbers
unfolding With
counts_with b = record {
  forward = λ h.
      let behind = h.read.second.read in
      omega (arith, h.read.first.end, behind.first.end, sound_lock.forward behind.second.first, (counts_body b).forward behind.second.second);
  fits = λ {i} {j} h.
      let after = h.read.second in
      let behind = after.read in
      let p = behind.second in
      let words = h.inner.1 in
      let same : words ≡ after.inner.1 = after.tree in
      let numbers : form_numbers (words.0 words.1.1) ≡ block_numbers words.1.1 = subst (λ (q : (List Stmt → StmtForm) × (ℕ × List Stmt)). form_numbers (q.0 q.1.1) ≡ block_numbers q.1.1) (sym same) (with_numbers _ _ _ _ _ after.inner.1.0 p.first after.inner.1.1.1) in
      let body : Fits (words.1.0 ∷ block_numbers words.1.1) i j =
      subst (λ (q : (List Stmt → StmtForm) × (ℕ × List Stmt)). Fits (q.1.0 ∷ block_numbers q.1.1) i j) (sym same)
      (wider ((counts_body b).fits p.second) (omega (arith, h.read.first.end, behind.first.end, sound_lock.forward p.first)) (omega arith)) in
      subst (λ s. Fits (statement_numbers s) i j) (sym h.tree) (as_statement words.1.0 h.inner.0 _ (block_numbers words.1.1) numbers body);
}

counts_alone : {X : Shape Stmt} → Counts X statement_numbers → Counts (Of alone X) block_numbers
counts_alone x = counts_of _ x (λ s i j h. ended (statement_numbers s) h)

counts_statement_with : {B : Shape (List Stmt)} → Counts B block_numbers → Counts (StatementWith B) block_numbers
unfolding StatementWith
counts_statement_with b =
    counts_either (counts_alone (counts_if b))
    (counts_either (counts_alone (counts_while b)) (counts_either (counts_alone (counts_for b)) (counts_either (counts_alone (counts_with b)) (counts_either (counts_alone counts_declare) counts_line))))

-- Blocks

each_joined : {A : Type 0} (numbers : A → List ℕ) (xss : List (List A)) → numbers_in_each numbers (joined xss) ≡ numbers_in_each (numbers_in_each numbers) xss
each_joined numbers [] = refl
each_joined numbers (xs ∷ others) = each_append numbers xs (joined others) ∙ ap (λ ns. numbers_in_each numbers xs ++ ns) (each_joined numbers others)

counts_statements_with : {B : Shape (List Stmt)} → Counts B block_numbers → Counts (StatementsWith B) block_numbers
unfolding StatementsWith
counts_statements_with b = counts_of _ (counts_several (counts_statement_with b)) (λ xss i j h. same_fits (each_joined statement_numbers xss) h)

counts_indented_with : {B : Shape (List Stmt)} → Counts B block_numbers → Counts (IndentedWith B) block_numbers
unfolding IndentedWith
counts_indented_with b = counts_after _ (counts_after _ (counts_before _ (counts_statements_with b)))

-- each block is looked at
counts_unseen : Counts Unseen block_numbers
counts_unseen = record { forward = λ h. absurd (none-some h.from h.hidden); fits = λ h. absurd (none-some h.from h.hidden) }

counts_within : (n : ℕ) → Counts (BlockWithin n) block_numbers
unfolding BlockWithin
counts_within zero = counts_unseen
counts_within (suc more) = counts_either counts_unseen (counts_either counts_line (counts_indented_with (counts_within more)))

counts_block : Counts Block block_numbers
unfolding Block
counts_block = record { forward = λ {n} h. (counts_within n).forward h; fits = λ {n} h. (counts_within n).fits h }

counts_statement : Counts Statement block_numbers
unfolding Statement
counts_statement = counts_statement_with counts_block

-- Functions

counts_numbered : Counts Numbered (λ p. p.0 ∷ [])
unfolding Numbered
counts_numbered = counts_here behind_name

counts_decorator : Counts DecoratorLine decorator_numbers
unfolding DecoratorLine
counts_decorator = counts_of _ (counts_here (behind_placed (behind_after (kind.Operator sign.At) (counts_none good_decorator_name.sound)))) (λ p i j h. h)

counts_parameter : Counts Parameter parameter_numbers
unfolding Parameter
counts_parameter =
    counts_of _ (counts_placed (counts_first (counts_seq (counts_maybe counts_typing) counts_numbered) good_not_none.sound)) (λ p i j h. last_first (numbers_in_part typing_numbers p.1.0.0) p.1.0.1.0 h)

counts_parameters : Counts Parameters (numbers_in_each parameter_numbers)
unfolding Parameters
counts_parameters = counts_elements _ counts_parameter

counts_result : Counts Result result_numbers
unfolding Result
counts_result = counts_or result_numbers result_type.Unwritten refl (counts_either (counts_of _ (counts_none (sound_soft _)) (λ t i j h. h)) (counts_of _ counts_typing (λ t i j h. h)))

counts_exception : Counts Exception exception_numbers
unfolding Exception
counts_exception =
    counts_or exception_numbers exception.Unwritten refl
    (counts_either (counts_of _ (counts_none (sound_soft _)) (λ t i j h. h))
    (counts_after _
    (counts_either (counts_of _ counts_expr (λ e i j h. h)) (counts_either (counts_after _ (counts_of _ counts_expr (λ e i j h. h))) (counts_of _ (counts_none (sound_token _)) (λ t i j h. h))))))

counts_tail : (k : FunctionKind) → Counts (Tail k) (λ p. exception_numbers p.0)
counts_tail function_kind.Def = counts_gives (λ p. exception_numbers p.0) _ refl
counts_tail function_kind.Cdef = counts_first counts_exception good_lock_form.sound
counts_tail function_kind.Cpdef = counts_first counts_exception good_lock_form.sound

counts_rest : (k : FunctionKind) → Counts (Rest k) (λ p. numbers_in_each parameter_numbers p.0 ++ (exception_numbers p.1.0.0 ++ block_numbers p.1.1))
unfolding Rest
counts_rest k = counts_after _ (counts_seq (counts_before _ counts_parameters) (counts_seq (counts_tail k) (counts_after _ counts_block)))

counts_def_head : Counts DefHead (λ p. result_numbers p.1.1.0 ++ p.1.1.1.0 ∷ [])
unfolding DefHead
counts_def_head = counts_after _ (counts_of _ counts_numbered (λ p i j h. h))

counts_c_head : Counts CHead (λ p. result_numbers p.1.1.0 ++ p.1.1.1.0 ∷ [])
unfolding CHead
counts_c_head = counts_second good_c_word.sound (counts_second (sound_or false (sound_of _ (sound_token _))) (counts_seq counts_result counts_numbered))

function_fits : (k : ℕ) (decorators result rest : List ℕ) {i j : ℕ} → Fits (decorators ++ ((result ++ k ∷ []) ++ rest)) i j → Fits (k ∷ (decorators ++ (result ++ rest))) i j
function_fits k decorators result rest h =
    let apart : (decorators ++ result) ++ k ∷ rest ≡ decorators ++ ((result ++ k ∷ []) ++ rest) =
    append_assoc decorators result (k ∷ rest) ∙ ap (λ ns. decorators ++ ns) (sym (append_assoc result (k ∷ []) rest)) in
    same_fits (ap (λ ns. k ∷ ns) (sym (append_assoc decorators result rest))) (moved (decorators ++ result) rest k (same_fits apart h))

counts_function : Counts FunctionForm function_numbers
unfolding FunctionForm
counts_function =
    counts_of _ (counts_placed (counts_seq (counts_many counts_decorator) (counts_placed (counts_then (counts_either counts_def_head counts_c_head) (λ head. counts_rest head.0)))))
    (λ p i j h. function_fits p.1.1.1.0.1.1.1.0 (numbers_in_each decorator_numbers p.1.0) (result_numbers p.1.1.1.0.1.1.0) _ h)

-- Modules

counts_imported : Counts Imported imported_numbers
unfolding Imported
counts_imported = counts_of _ (counts_here (behind_placed (behind_seq behind_name (counts_none good_alias.sound)))) (λ p i j h. h)

counts_whole_import : Counts WholeImport (λ p. numbers_in_import p.1)
unfolding WholeImport
counts_whole_import = counts_of _ (counts_none (good_seq good_import_word (good_seq good_dotted good_alias)).sound) (λ p i j h. h)

counts_part_import : Counts PartImport (λ p. numbers_in_import p.1)
unfolding PartImport
counts_part_import = counts_after _ (counts_of _ (counts_second good_dotted.sound (counts_second good_import_word.sound (counts_separated _ counts_imported))) (λ p i j h. h))

counts_import : Counts ImportLine import_numbers
unfolding ImportLine
counts_import =
    counts_of _ (counts_placed (counts_seq (counts_either counts_whole_import counts_part_import) (counts_mark kind.Newline))) (λ p i j h. last_first (numbers_in_import p.1.0.1) p.1.1 h)

statement_items : (ss : List Stmt) → numbers_in_each item_numbers (map module_item.Statement ss) ≡ block_numbers ss
statement_items [] = refl
statement_items (s ∷ ss) = ap (λ ns. statement_numbers s ++ ns) (statement_items ss)

counts_item : Counts Item (numbers_in_each item_numbers)
unfolding Item
counts_item =
    counts_either (counts_of _ (counts_none (sound_token kind.Newline)) (λ t i j h. h))
    (counts_either (counts_of one_function counts_function (λ f i j h. ended (function_numbers f) h))
    (counts_either (counts_of one_import counts_import (λ x i j h. ended (import_numbers x) h)) (counts_of _ counts_statement (λ ss i j h. same_fits (statement_items ss) h))))

counts_module : (comments : List Comment) → Counts (ModuleForm comments) module_numbers
unfolding ModuleForm
counts_module comments =
    counts_of _ (counts_placed (counts_seq (counts_many counts_item) (counts_mark kind.End)))
    (λ p i j h. same_fits (ap (λ ns. p.1.1 ∷ ns) (each_joined item_numbers p.1.0)) (last_first (numbers_in_each (numbers_in_each item_numbers) p.1.0) p.1.1 h))

pub module_numbers_distinct : ModuleNumbersAreDistinct
module_numbers_distinct limit ts comments m derived =
    let f = (counts_module comments).fits derived in
    (All-weaker (IsWithin 0 (length ts)) (λ n. n < length ts) (λ n w. w.1) (module_numbers m) f.within, f.distinct)
