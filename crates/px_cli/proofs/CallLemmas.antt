-- Calls, told by one level of their trees.
use Rattle.std.proofs.Common.{◌≡◌, ◌==◌, ℕ, List, [], ◌∷◌, length, Bool, true, false, ◌↔◌, IsTrue, None, refl, sym, ap, ◌∙◌, subst, arith}
use Rattle.std.specs.Prelude.{codes, is_some}
use Rattle.std.proofs.lemmas.Bool.{false≢true}
use Rattle.std.proofs.lemmas.Bool.Decides.{Decides-eqb}
use Rattle.px_tree.specs.declared.expressions.Expr.{Expr}
use Rattle.px_tree.specs.declared.expressions.ExprForm.{ExprForm}
use Rattle.px_tree.specs.declared.expressions.ExprForm.TheVariants as form
use Rattle.px_tree.specs.declared.expressions.Argument.{Argument}
use Rattle.px_tree.specs.declared.expressions.Entry.{Entry}
use Rattle.px_tree.specs.declared.expressions.Item.{Item}
use Rattle.px_tree.specs.declared.expressions.Link.{Link}
use Rattle.px_tree.specs.declared.expressions.Comparison.{Comparison}
use Rattle.px_tree.specs.declared.expressions.Trailer.{Trailer}
use Rattle.px_tree.specs.declared.expressions.ExprForm.TheOpen.{Trailer-F}
use Rattle.px_tree.specs.declared.expressions.ExprForm.TheViews.{out-Trailer, out-roll-Trailer}
use Rattle.px_tree.specs.declared.expressions.Trailer.TheVariants as trailer
use Rattle.px_tree.specs.declared.expressions.Trailer.TheVariants.{rolls-Call}
use Rattle.px_tree.specs.declared.statements.Stmt.{Stmt}
use Rattle.px_tree.specs.declared.statements.StmtForm.TheVariants as stmt_form
use Rattle.px_tree.specs.declared.modules.ModuleItem.{ModuleItem}
use Rattle.px_tree.specs.declared.modules.ModuleItem.TheVariants as module_item
use Rattle.px_cli.specs.FirstMeaning.{IsCall, CallsMain}
use Rattle.px_cli.specs.FirstRefusals.{IsCallItem}
use Rattle.px_cli.proofs.StatementLemmas.{same_assign, same_row}

abbrev TrailerLayer : Type 0
TrailerLayer = Trailer-F ExprForm Item Trailer Argument Comparison Entry Expr Link

calls_of : TrailerLayer → List Argument
calls_of (Trailer-F.Call arguments) = arguments
calls_of _ = []

-- the arguments of a call are one list
pub same_arguments : {name : List ℕ} {call : Expr} {xs ys : List Argument} → IsCall name call xs → IsCall name call ys → xs ≡ ys
unfolding calls_of
same_arguments {xs = xs} {ys = ys} a b =
    let rows = same_row a.called b.called a.row b.row in
    let trailers = rows.1 in
    let calls : trailer.Call xs ≡ trailer.Call ys = cc in
    opened calls
  where
    arguments_in : Trailer → List Argument
    arguments_in t = calls_of (out-Trailer t)

    opened : trailer.Call xs ≡ trailer.Call ys → xs ≡ ys
    opened e = sym (told xs) ∙ ap arguments_in e ∙ told ys
      where
        told : (zs : List Argument) → arguments_in (trailer.Call zs) ≡ zs
        told zs = ap calls_of (ap out-Trailer (sym (rolls-Call zs)) ∙ out-roll-Trailer (Trailer-F.Call zs))

-- whether an item is a call of `main`, from what is known of its parts
pub call_missing : {item : ModuleItem} (s : Stmt) (targets : List Expr) (call : Expr) → item ≡ module_item.Statement s → s.form ≡ stmt_form.Assign targets call → ((arguments : List Argument) → IsCall (codes "main") call arguments → ⊥) → IsCallItem item → ⊥
call_missing s targets call is stands none h =
    let calls : CallsMain s = subst IsCallItem is h in
    none [] (subst (λ e. IsCall (codes "main") e []) (sym (same_assign targets [] call calls.call stands calls.stands).1) calls.is)

pub call_assigned : {item : ModuleItem} (s : Stmt) (targets : List Expr) (call : Expr) → item ≡ module_item.Statement s → s.form ≡ stmt_form.Assign targets call → (targets ≡ [] → ⊥) → IsCallItem item → ⊥
call_assigned s targets call is stands some h =
    let calls : CallsMain s = subst IsCallItem is h in
    some (same_assign targets [] call calls.call stands calls.stands).0

pub call_told : {item : ModuleItem} (s : Stmt) (targets : List Expr) (call : Expr) (arguments : List Argument) (r : Bool) → item ≡ module_item.Statement s → s.form ≡ stmt_form.Assign targets call → targets ≡ [] → IsCall (codes "main") call arguments
    → r ≡ (length arguments == 0) → IsTrue r ↔ IsCallItem item
call_told s targets call [] true is stands none call_is empty = (λ yes. subst IsCallItem (sym is) (record { call = call; stands = stands ∙ ap (λ ts. stmt_form.Assign ts call) none; is = call_is }), λ h. refl)
call_told s targets call (a ∷ others) true is stands none call_is empty = absurd (omega (arith, (Decides-eqb (length (a ∷ others)) 0).0 (sym empty)))
call_told s targets call [] false is stands none call_is empty = absurd (false≢true empty)
call_told s targets call (a ∷ others) false is stands none call_is empty = (
  λ yes. absurd (false≢true yes),
  λ h.
      let calls : CallsMain s = subst IsCallItem is h in
      let same : a ∷ others ≡ [] = same_arguments call_is (subst (λ e. IsCall (codes "main") e []) (sym (same_assign targets [] call calls.call stands calls.stands).1) calls.is) in
      absurd cc,
)

-- what is told of a call

pub one_call : {name : List ℕ} {call : Expr} (called : Expr) (trailers : List Trailer) (t : Trailer) (arguments : List Argument) → call.form ≡ form.Row called trailers → trailers ≡ t ∷ [] → t ≡ trailer.Call arguments → called.form ≡ form.Name name → IsCall name call arguments
one_call called trailers t arguments row one is named = record { called = called; row = row ∙ ap (λ ts. form.Row called ts) (one ∙ ap (λ x. x ∷ []) is); named = named }

pub row_told : {name : List ℕ} {call : Expr} {arguments : List Argument} (called : Expr) (trailers : List Trailer) → call.form ≡ form.Row called trailers → IsCall name call arguments → (called.form ≡ form.Name name) × (trailers ≡ trailer.Call arguments ∷ [])
row_told called trailers row h =
    let same = same_row called h.called row h.row in
    (subst (λ (e : Expr). e.form ≡ form.Name _) (sym same.0) h.named, same.1)

-- an argument that has a name is no other one that has none
pub some_named : (found argument : Argument) → found ∷ [] ≡ argument ∷ [] → argument.name ≡ None → true ≡ is_some found.name → ⊥
some_named found argument same unnamed named =
    let e : found ≡ argument = cc in
    false≢true (sym (named ∙ ap (λ (a : Argument). is_some a.name) e ∙ ap is_some unnamed))
