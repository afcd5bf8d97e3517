-- Expressions and lists of them as shapes: each is sound, can begin anywhere, and is read in one way.
use Rattle.std.proofs.Common.{ℕ, ◌≤◌, List, ◌++◌, [], ◌∷◌, Option, length, sym, subst, arith}
use Rattle.px_lexer.specs.declared.spelling.Operator.TheVariants as sign
use Rattle.px_lexer.specs.declared.token_list.TokenKind.TheVariants as kind
use Rattle.px_base.specs.declared.refusals.Span.{Span}
use Rattle.px_lexer.specs.Terminals.{Terminal, HasKind}
use Rattle.px_exprs.specs.Codes.{code_at, Past}
use Rattle.px_exprs.specs.Grammar.{IsExpr}
use Rattle.px_exprs.specs.Readings.{Form, Stops}
use Rattle.px_exprs.proofs.Agreement.{agree_append}
use Rattle.px_exprs.proofs.Beginnings.{expr_begins}
use Rattle.px_exprs.proofs.Codes.{code_here}
use Rattle.px_exprs.proofs.Fresh.{IsFresh, some_name, fresh_expr}
use Rattle.px_exprs.proofs.Keeping.{expr_carried, expr_forward}
use Rattle.px_exprs.proofs.Stops.{code_carried, past_carried, past_from, kind_stops}
use Rattle.px_exprs.proofs.Uniqueness.{expr_only}
use Rattle.px_parser.specs.Shapes.{Shape, Here, Placed, Seq, After, Maybe, Elements}
use Rattle.px_parser.specs.Readings.{Anywhere}
use Rattle.px_parser.specs.StatementGrammar.{IsWithinLimit, Exprs}
use Rattle.px_parser.specs.Parts.{ExprsRead}
use Rattle.px_parser.specs.Ends.{EndsExprs}
use Rattle.px_parser.proofs.Shapely.{Sound, Solid, FreshForm, GoodForm, Good, one_longer, sound_seq, sound_here, sound_maybe, sound_after, sound_elements, sound_listed, good_of, good_seq, good_here, good_placed, good_maybe, good_after, good_elements, good_nested}
use Rattle.px_parser.proofs.Onlies.{Leads, Clash, Only, OnlyForm, leads_here, leads_either, leads_of, leads_after, leads_gives, leads_listed, leads_anywhere, only_of, only_placed, only_seq, only_here, only_maybe, only_after, only_or, only_listed, only_nested}
use Rattle.px_parser.proofs.KindLaws.{solid_front}

-- Expressions

-- a form of one name
pub fresh_form : {A : Type 0} {X : Form A} → IsFresh X → (us : List Terminal) → FreshForm X us
fresh_form {X = X} fresh us =
    let made = fresh us in
    record {
      tokens = us ++ some_name ∷ [];
      same = agree_append us (some_name ∷ []);
      long = omega (arith, one_longer us some_name);
      tree = made.0;
      derived = subst (λ n. X (us ++ some_name ∷ []) (length us) made.0 0 n) (sym (one_longer us some_name)) made.1;
    }

pub good_form_expr : GoodForm IsExpr
good_form_expr = record {
  sound = record {
    carried = λ {ts} {us} {i} {d} {j} h a. (expr_carried j a h).1 (omega arith);
    forward = λ h. expr_forward h;
  };
  fresh = fresh_form fresh_expr;
}

pub good_expr : Good IsWithinLimit
good_expr = good_nested good_form_expr

pub only_form_expr : OnlyForm IsExpr (Past 26)
only_form_expr = record {
  one = λ {ts} {us} {l = l} h s g r agree.
      let same = expr_only (good_form_expr.sound.carried h (λ i lt. agree i (omega (arith, lt)))) (past_carried ts us l agree s) _ _ _ g r in
      (same.tree, same.end);
}

pub only_expr : Only IsWithinLimit (Past 26)
only_expr = only_nested only_form_expr

pub solid_expr : Solid IsWithinLimit
solid_expr = record { grows = λ h. expr_forward h.read }

-- what an expression begins with
abbrev pub BeginsLow : Stops
BeginsLow ts i = code_at ts i ≤ 21

pub leads_expr : {R : Stops} → Leads IsWithinLimit R BeginsLow
leads_expr = record { leads = λ h r. expr_begins h.read }

-- Ends

pub low_is_no_end : Clash BeginsLow EndsExprs
low_is_no_end ts us i agree low end = omega (arith, code_carried ts us i agree, low, end)

abbrev pub IsComma : Stops
IsComma ts i = HasKind ts i (kind.Operator sign.Comma)

pub comma_is_no_end : Clash IsComma EndsExprs
comma_is_no_end ts us i agree comma end = omega (arith, code_carried ts us i agree, code_here comma, end)

pub end_past : {n : ℕ} → n ≤ 28 → (ts : List Terminal) (i : ℕ) → EndsExprs ts i → Past n ts i
end_past le ts i end = past_from ts i (omega (arith, end, le))

pub comma_past : {n : ℕ} → n ≤ 27 → (ts : List Terminal) (i : ℕ) → IsComma ts i → Past n ts i
comma_past le ts i comma = kind_stops comma (omega (arith, le))

-- X (',' X)* [',']

abbrev pub Others : {A : Type 0} → Shape A → Shape (Option (List A))
Others X = Maybe (After (kind.Operator sign.Comma) (Elements (kind.Operator sign.Comma) X))

abbrev pub Commas : {A : Type 0} → Shape A → Shape (Span × (A × (ℕ × Option (List A))))
Commas X = Placed (Seq X (Seq Here (Others X)))

pub good_others : {A : Type 0} {X : Shape A} → Good X → Good (Others X)
good_others x = good_maybe (good_after _ (good_elements _ x))

pub good_commas : {A : Type 0} {X : Shape A} → Solid X → Good X → Good (Commas X)
good_commas solid x = good_placed (solid_front solid (sound_seq sound_here (good_others x).sound)) (good_seq x (good_seq good_here (good_others x)))

-- Each element is read in one way before what holds at a comma and where a list ends.

-- the elements behind a comma, perhaps none
pub only_elements : {A : Type 0} {X : Shape A} {M : Stops} → Sound X → Only X M → Leads X Anywhere BeginsLow → ((ts : List Terminal) (i : ℕ) → IsComma ts i → M ts i) → ((ts : List Terminal) (i : ℕ) → EndsExprs ts i → M ts i)
    → Only (Elements (kind.Operator sign.Comma) X) EndsExprs
only_elements sound x leads comma ends =
    only_or [] (sound_listed _ sound) (only_listed _ sound x leads low_is_no_end comma_is_no_end comma ends) (leads_listed _ leads) low_is_no_end

pub only_others : {A : Type 0} {X : Shape A} {M : Stops} → Sound X → Only X M → Leads X Anywhere BeginsLow → ((ts : List Terminal) (i : ℕ) → IsComma ts i → M ts i) → ((ts : List Terminal) (i : ℕ) → EndsExprs ts i → M ts i)
    → Only (Others X) EndsExprs
only_others {X = X} sound x leads comma ends =
    let elements = sound_elements (kind.Operator sign.Comma) sound in
    only_maybe (sound_after _ elements) (only_after _ elements (only_elements sound x leads comma ends)) (leads_after (Elements (kind.Operator sign.Comma) X) _ EndsExprs IsComma (λ ts i h. h)) comma_is_no_end

-- what stands behind the first element
pub leads_others : {A : Type 0} {X : Shape A} {M : Stops} → ((ts : List Terminal) (i : ℕ) → IsComma ts i → M ts i) → ((ts : List Terminal) (i : ℕ) → EndsExprs ts i → M ts i) → Leads (Seq Here (Others X)) EndsExprs M
leads_others {X = X} {M = M} comma ends = leads_here (leads_either (leads_of _ (leads_after (Elements (kind.Operator sign.Comma) X) _ EndsExprs M comma)) (leads_gives _ ends))

pub only_commas : {A : Type 0} {X : Shape A} {M : Stops} → Solid X → Sound X → Only X M → Leads X Anywhere BeginsLow → ((ts : List Terminal) (i : ℕ) → IsComma ts i → M ts i) → ((ts : List Terminal) (i : ℕ) → EndsExprs ts i → M ts i)
    → Only (Commas X) EndsExprs
only_commas {X = X} solid sound x leads comma ends =
    let others : Sound (Others X) = sound_maybe (sound_after _ (sound_elements _ sound)) in
    let behind = sound_seq sound_here others in
    only_placed (solid_front solid behind)
    (only_seq sound behind x (leads_others comma ends) (only_seq sound_here others (only_here Anywhere) (leads_anywhere (Others X) EndsExprs) (only_others sound x leads comma ends)))

pub solid_commas : {A : Type 0} {X : Shape A} → Solid X → Sound X → Solid (Commas X)
solid_commas {X = X} solid sound =
    let others : Sound (Others X) = sound_maybe (sound_after _ (sound_elements _ sound)) in
    let first = solid_front solid (sound_seq sound_here others) in
    record { grows = λ h. omega (arith, h.first.end, first.grows h.second) }

pub good_other_exprs : Good (Elements (kind.Operator sign.Comma) IsWithinLimit)
good_other_exprs = good_elements _ good_expr

pub good_expr_commas : Good (Commas IsWithinLimit)
good_expr_commas = good_commas solid_expr good_expr

pub only_expr_commas : Only (Commas IsWithinLimit) EndsExprs
only_expr_commas = only_commas solid_expr good_expr.sound only_expr leads_expr (comma_past (omega arith)) (end_past (omega arith))

-- exprs, and whether they are one expression

pub good_exprs_read : Good ExprsRead
unfolding ExprsRead
good_exprs_read = good_of _ good_expr_commas

pub only_exprs_read : Only ExprsRead EndsExprs
unfolding ExprsRead
only_exprs_read = only_of _ only_expr_commas

pub good_exprs : Good Exprs
unfolding Exprs
good_exprs = good_of _ good_expr_commas

pub only_exprs : Only Exprs EndsExprs
unfolding Exprs
only_exprs = only_of _ only_expr_commas

pub leads_exprs : {R : Stops} → Leads Exprs R BeginsLow
unfolding Exprs
leads_exprs = record { leads = λ {ts} h r. subst (λ k. code_at ts k ≤ 21) h.read.first.end (expr_begins h.read.second.first.read) }

pub solid_exprs : Solid Exprs
unfolding Exprs
solid_exprs = let parts = solid_commas solid_expr good_expr.sound in record { grows = λ h. parts.grows h.read }
