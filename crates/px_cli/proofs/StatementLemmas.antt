-- Statements, told by one level of their trees.
use Rattle.std.proofs.Common.{◌≡◌, List, sym, ap, ◌∙◌}
use Rattle.px_tree.specs.declared.expressions.Expr.{Expr}
use Rattle.px_tree.specs.declared.expressions.ExprForm.{ExprForm}
use Rattle.px_tree.specs.declared.expressions.ExprForm.TheVariants as form
use Rattle.px_tree.specs.declared.expressions.Trailer.{Trailer}
use Rattle.px_tree.specs.declared.statements.StmtForm.{StmtForm}
use Rattle.px_tree.specs.declared.statements.StmtForm.TheOpen.{StmtForm-F}
use Rattle.px_tree.specs.declared.statements.StmtForm.TheViews.{out-StmtForm, out-roll-StmtForm}
use Rattle.px_tree.specs.declared.statements.StmtForm.TheVariants as stmt_form
use Rattle.px_tree.specs.declared.statements.StmtForm.TheVariants.{rolls-Assign, rolls-Declare}
use Rattle.px_tree.specs.declared.statements.Declaration.{Declaration}
use Rattle.px_cli.proofs.ExpressionLemmas.{is_row}

-- One level

is_declare : (d : Declaration) {f : StmtForm} → f ≡ stmt_form.Declare d → out-StmtForm f ≡ StmtForm-F.Declare d
is_declare d is = ap out-StmtForm (is ∙ sym (rolls-Declare d)) ∙ out-roll-StmtForm (StmtForm-F.Declare d)

is_assign : (targets : List Expr) (e : Expr) {f : StmtForm} → f ≡ stmt_form.Assign targets e → out-StmtForm f ≡ StmtForm-F.Assign targets e
is_assign targets e is = ap out-StmtForm (is ∙ sym (rolls-Assign targets e)) ∙ out-roll-StmtForm (StmtForm-F.Assign targets e)

pub same_declaration : (d e : Declaration) {f : StmtForm} → f ≡ stmt_form.Declare d → f ≡ stmt_form.Declare e → d ≡ e
same_declaration d e f g = let h = sym (is_declare d f) ∙ is_declare e g in cc

pub same_assign : (ts us : List Expr) (a b : Expr) {f : StmtForm} → f ≡ stmt_form.Assign ts a → f ≡ stmt_form.Assign us b → (ts ≡ us) × (a ≡ b)
same_assign ts us a b f g =
    let h = sym (is_assign ts a f) ∙ is_assign us b g in
    let p : ts ≡ us = cc in
    let q : a ≡ b = cc in
    (p, q)

pub declare_or_assign : (d : Declaration) (ts : List Expr) (e : Expr) {f : StmtForm} → f ≡ stmt_form.Declare d → f ≡ stmt_form.Assign ts e → ⊥
declare_or_assign d ts e f g = let h = sym (is_declare d f) ∙ is_assign ts e g in absurd cc

pub same_row : (a b : Expr) {ts us : List Trailer} {f : ExprForm} → f ≡ form.Row a ts → f ≡ form.Row b us → (a ≡ b) × (ts ≡ us)
same_row a b {ts} {us} f g =
    let h = sym (is_row a ts f) ∙ is_row b us g in
    let p : a ≡ b = cc in
    let q : ts ≡ us = cc in
    (p, q)
