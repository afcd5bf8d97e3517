-- Simple statements as shapes: each is sound, can begin anywhere, has a token, begins with few, and is read in one way.
use Rattle.std.proofs.Common.{◌≡◌, ℕ, suc, ◌≤◌, List, Option, None, ◌⊎◌, inl, inr, subst, arith}
use Rattle.px_lexer.specs.declared.spelling.Keyword.{Keyword}
use Rattle.px_lexer.specs.declared.spelling.Keyword.TheVariants as word
use Rattle.px_lexer.specs.declared.spelling.Operator.{Operator}
use Rattle.px_lexer.specs.declared.spelling.Operator.TheVariants as sign
use Rattle.px_lexer.specs.declared.token_list.TokenKind.{TokenKind}
use Rattle.px_lexer.specs.declared.token_list.TokenKind.TheVariants as kind
use Rattle.px_tree.specs.declared.expressions.Expr.{Expr}
use Rattle.px_tree.specs.declared.statements.Stmt.{Stmt}
use Rattle.px_tree.specs.declared.statements.StmtForm.{StmtForm}
use Rattle.px_tree.specs.declared.statements.StmtForm.TheVariants as statement
use Rattle.px_lexer.specs.Terminals.{Terminal, HasKind}
use Rattle.px_exprs.specs.Codes.{code_at, kind_code, Past}
use Rattle.px_exprs.specs.Grammar.{IsExpr}
use Rattle.px_exprs.specs.Readings.{Stops}
use Rattle.px_exprs.proofs.Agreement.{agree_same}
use Rattle.px_exprs.proofs.Beginnings.{expr_begins}
use Rattle.px_exprs.proofs.Codes.{code_here}
use Rattle.px_lexer.proofs.OneToken.{one_kind}
use Rattle.px_exprs.proofs.Keeping.{kind_carried}
use Rattle.px_exprs.proofs.Stops.{code_carried, kind_stops}
use Rattle.px_parser.specs.Shapes.{Shape, Token, Name, Here, Gives, Seq, Either, Many, Listed, Of, After, Before, Or, Maybe, Nested}
use Rattle.px_parser.specs.Readings.{Anywhere}
use Rattle.px_parser.specs.StatementGrammar.{InBrackets, Exprs, Return, Raise, Global, SimpleForm, Simple, Line}
use Rattle.px_parser.specs.Parts.{Assigned, RaisedText, NamesBy}
use Rattle.px_parser.specs.Ends.{EndsExprs, EndsSimple, EndsNames}
use Rattle.px_parser.proofs.Shapely.{Sound, Solid, SoundForm, Good, sound_name, sound_here, sound_gives, sound_nested, sound_many, sound_after, sound_before, sound_maybe, rises_nested, rises_maybe, fresh_or, good_name, good_here, good_gives, good_seq, good_of, good_after, good_before, good_or, good_maybe, good_either, good_separated, good_placed, good_listed}
use Rattle.px_parser.proofs.Onlies.{Leads, Clash, clash_back, Only, OnlyForm, leads_either, leads_of, leads_after, leads_seq, leads_placed, leads_listed, leads_wider, leads_anyhow, leads_anywhere, only_name, only_here, only_gives, only_seq, only_of, only_either, only_many, only_listed, only_after, only_before, only_or, only_maybe, only_placed, only_nested, only_narrower}
use Rattle.px_parser.proofs.ExprShapes.{BeginsLow, good_form_expr, only_form_expr, good_exprs, only_exprs, leads_exprs, low_is_no_end}
use Rattle.px_parser.proofs.TargetsShapes.{good_assigned}
use Rattle.px_parser.proofs.TargetsOnly.{only_assigned, leads_assigned, solid_assigned}
use Rattle.px_parser.proofs.KindLaws.{solid_front, solid_placed, solid_of, solid_either, solid_after}

-- Each form has a token

pub solid_before : {A : Type 0} {X : Shape A} (k : TokenKind) → Sound X → Solid (Before X k)
solid_before k sound = record { grows = λ h. omega (arith, sound.forward h.read.first, h.read.second.end) }

-- Tokens that differ

abbrev pub IsKind : TokenKind → Stops
IsKind k ts i = HasKind ts i k

pub kinds_clash : (k l : TokenKind) → (k ≡ l → ⊥) → Clash (IsKind k) (IsKind l)
kinds_clash k l apart ts us i agree here there = apart (one_kind (kind_carried (suc i) agree here (omega arith)) there)

pub low_is_not : (k : TokenKind) → 22 ≤ kind_code k → Clash BeginsLow (IsKind k)
low_is_not k high ts us i agree low there = omega (arith, code_carried ts us i agree, low, code_here there, high)

pub clash_either : {T V R : Stops} → Clash T R → Clash V R → Clash (λ ts i. T ts i ⊎ V ts i) R
clash_either t v ts us i agree (inl h) r = t ts us i agree h r
clash_either t v ts us i agree (inr h) r = v ts us i agree h r

pub clash_with_either : {T V R : Stops} → Clash R T → Clash R V → Clash R (λ ts i. T ts i ⊎ V ts i)
clash_with_either t v ts us i agree r (inl h) = t ts us i agree r h
clash_with_either t v ts us i agree r (inr h) = v ts us i agree r h

-- Where a simple statement ends

pub simple_end_code : (ts : List Terminal) (i : ℕ) → EndsSimple ts i → code_at ts i ≡ 34
simple_end_code ts i (inl h) = code_here h
simple_end_code ts i (inr h) = code_here h

pub simple_ends_exprs : (ts : List Terminal) (i : ℕ) → EndsSimple ts i → EndsExprs ts i
simple_ends_exprs ts i end = omega (arith, simple_end_code ts i end)

pub is_no_simple_end : (k : TokenKind) → (k ≡ kind.Operator sign.Semicolon → ⊥) → (k ≡ kind.Newline → ⊥) → Clash (IsKind k) EndsSimple
is_no_simple_end k a b = clash_with_either (kinds_clash k (kind.Operator sign.Semicolon) a) (kinds_clash k kind.Newline b)

pub simple_ends_names : (separator : Operator) → (separator ≡ sign.Semicolon → ⊥) → (ts : List Terminal) (i : ℕ) → EndsSimple ts i → EndsNames separator ts i
simple_ends_names separator apart ts i (inl h) = λ there. let same = one_kind there h in apart cc
simple_ends_names separator apart ts i (inr h) = λ there. let same = one_kind there h in absurd cc

-- NAME (separator NAME)*

pub good_names : (separator : Operator) → Good (NamesBy separator)
unfolding NamesBy
good_names separator = good_separated _ good_name

pub separator_ends_names : (separator : Operator) → Clash (IsKind (kind.Operator separator)) (EndsNames separator)
separator_ends_names separator ts us i agree here end = end (kind_carried (suc i) agree here (omega arith))

pub only_other_names : (separator : Operator) → Only (Many (After (kind.Operator separator) Name)) (EndsNames separator)
only_other_names separator =
    only_many {M = Anywhere} (sound_after _ sound_name) (only_after _ sound_name (only_name Anywhere)) (leads_after Name (kind.Operator separator) Anywhere (IsKind (kind.Operator separator)) (λ ts i h. h)) (separator_ends_names separator) (λ ts i h. tt) (λ ts i h. tt)

pub only_names : (separator : Operator) → Only (NamesBy separator) (EndsNames separator)
unfolding NamesBy
only_names separator = only_of _ (only_seq sound_name (sound_many (sound_after _ sound_name)) (only_name Anywhere) (leads_anywhere (Many (After (kind.Operator separator) Name)) (EndsNames separator)) (only_other_names separator))

-- Expressions in brackets

pub sound_bracketed : SoundForm (InBrackets IsExpr)
sound_bracketed = record {
  carried = λ h a. record { inner = h.inner; read = good_form_expr.sound.carried h.read a; nests = h.nests };
  forward = λ h. good_form_expr.sound.forward h.read;
}

pub only_bracketed : OnlyForm (InBrackets IsExpr) (Past 26)
only_bracketed = record { one = λ g s h r agree. only_form_expr.one g.read s h.read r agree }

abbrev pub Bracketed : Shape Expr
Bracketed = Nested (InBrackets IsExpr)

pub leads_bracketed : {R : Stops} → Leads Bracketed R BeginsLow
leads_bracketed = record { leads = λ h r. expr_begins h.read.read }

pub good_text : Good (Maybe Bracketed)
good_text = record {
  sound = sound_maybe (sound_nested sound_bracketed);
  rises = λ mode other n m le more. rises_maybe (rises_nested (InBrackets IsExpr) le);
  fresh = fresh_or None;
}

abbrev pub IsClosing : Stops
IsClosing = IsKind (kind.Operator sign.CloseParenthesis)

pub closing_past : (ts : List Terminal) (i : ℕ) → IsClosing ts i → Past 26 ts i
closing_past ts i h = kind_stops h (omega arith)

pub only_text : Only (Maybe Bracketed) IsClosing
only_text = only_maybe (sound_nested sound_bracketed) (only_narrower (only_nested only_bracketed) closing_past) leads_bracketed (low_is_not (kind.Operator sign.CloseParenthesis) (omega arith))

-- '(' [expr] ')'

pub good_closed : Good (Before (Maybe Bracketed) (kind.Operator sign.CloseParenthesis))
good_closed = good_before _ good_text

pub good_raised_text : Good RaisedText
unfolding RaisedText
good_raised_text = good_after _ good_closed

pub only_raised_text : (S : Stops) → Only RaisedText S
unfolding RaisedText
only_raised_text S = only_after _ (sound_before _ good_text.sound) (only_before (kind.Operator sign.CloseParenthesis) S good_text.sound only_text (λ ts i h. h))

abbrev pub IsOpening : Stops
IsOpening = IsKind (kind.Operator sign.OpenParenthesis)

pub leads_raised_text : {R : Stops} → Leads RaisedText R IsOpening
unfolding RaisedText
leads_raised_text {R = R} = leads_after (Before (Maybe Bracketed) (kind.Operator sign.CloseParenthesis)) (kind.Operator sign.OpenParenthesis) R IsOpening (λ ts i h. h)

-- 'return' [exprs]

pub only_returned : Only (Maybe Exprs) EndsExprs
only_returned = only_maybe good_exprs.sound only_exprs leads_exprs low_is_no_end

pub good_returned : Good (Of statement.Return (Maybe Exprs))
good_returned = good_of _ (good_maybe good_exprs)

pub good_return : Good Return
unfolding Return
good_return = good_after _ good_returned

pub only_return_exprs : Only Return EndsExprs
unfolding Return
only_return_exprs = only_after _ good_returned.sound (only_of _ only_returned)

pub only_return : Only Return EndsSimple
only_return = only_narrower only_return_exprs simple_ends_exprs

pub solid_return : Solid Return
unfolding Return
solid_return = solid_after _ good_returned.sound

pub leads_return : {R : Stops} → Leads Return R (IsKind (kind.Keyword word.Return))
unfolding Return
leads_return {R = R} = leads_after (Of statement.Return (Maybe Exprs)) (kind.Keyword word.Return) R (IsKind (kind.Keyword word.Return)) (λ ts i h. h)

-- 'raise' NAME ['(' [expr] ')']

abbrev pub MaybeText : Shape (Option Expr)
MaybeText = Or None RaisedText

pub good_maybe_text : Good MaybeText
good_maybe_text = good_or None good_raised_text

-- no bracket opens here
abbrev pub NoOpening : Stops
NoOpening ts i = IsOpening ts i → ⊥

opening_or_not : Clash IsOpening NoOpening
opening_or_not ts us i agree here none = none (kind_carried (suc i) agree here (omega arith))

pub opening_is_no_end : Clash IsOpening EndsSimple
opening_is_no_end = is_no_simple_end (kind.Operator sign.OpenParenthesis) (λ e. cc) (λ e. cc)

pub simple_end_is_no_opening : (ts : List Terminal) (i : ℕ) → EndsSimple ts i → NoOpening ts i
simple_end_is_no_opening ts i end = λ opening. opening_is_no_end ts ts i (agree_same ts) opening end

pub only_maybe_text : Only MaybeText NoOpening
only_maybe_text = only_or None good_raised_text.sound (only_raised_text NoOpening) leads_raised_text opening_or_not

abbrev pub Raised : Shape StmtForm
Raised = Of (λ p. statement.Raise p.0 p.1) (Seq Name MaybeText)

pub good_raised : Good Raised
good_raised = good_of _ (good_seq good_name good_maybe_text)

pub only_raised : Only Raised NoOpening
only_raised = only_of _ (only_seq sound_name good_maybe_text.sound (only_name Anywhere) (leads_anywhere MaybeText NoOpening) only_maybe_text)

pub good_raise : Good Raise
unfolding Raise RaisedText
good_raise = good_after _ good_raised

pub only_raise_opening : Only Raise NoOpening
unfolding Raise RaisedText
only_raise_opening = only_after _ good_raised.sound only_raised

pub only_raise : Only Raise EndsSimple
only_raise = only_narrower only_raise_opening simple_end_is_no_opening

pub solid_raise : Solid Raise
unfolding Raise RaisedText
solid_raise = solid_after _ good_raised.sound

pub leads_raise : {R : Stops} → Leads Raise R (IsKind (kind.Keyword word.Raise))
unfolding Raise RaisedText
leads_raise {R = R} = leads_after Raised (kind.Keyword word.Raise) R (IsKind (kind.Keyword word.Raise)) (λ ts i h. h)

-- 'global' NAME (',' NAME)*

abbrev pub GlobalNames : Shape StmtForm
GlobalNames = Of statement.Global (NamesBy sign.Comma)

pub good_global_names : Good GlobalNames
good_global_names = good_of _ (good_names sign.Comma)

pub good_global : Good Global
unfolding Global NamesBy
good_global = good_after _ good_global_names

pub only_global_names : Only Global (EndsNames sign.Comma)
unfolding Global NamesBy
only_global_names = only_after _ good_global_names.sound (only_of _ (only_names sign.Comma))

pub only_global : Only Global EndsSimple
only_global = only_narrower only_global_names (simple_ends_names sign.Comma (λ e. cc))

pub solid_global : Solid Global
unfolding Global NamesBy
solid_global = solid_after _ good_global_names.sound

pub leads_global : {R : Stops} → Leads Global R (IsKind (kind.Keyword word.Global))
unfolding Global NamesBy
leads_global {R = R} = leads_after GlobalNames (kind.Keyword word.Global) R (IsKind (kind.Keyword word.Global)) (λ ts i h. h)

-- A keyword alone

abbrev pub Lone : Keyword → StmtForm → Shape StmtForm
Lone w form = After (kind.Keyword w) (Gives form)

pub good_lone : (w : Keyword) (form : StmtForm) → Good (Lone w form)
good_lone w form = good_after _ (good_gives form)

pub only_lone : (w : Keyword) (form : StmtForm) (S : Stops) → Only (Lone w form) S
only_lone w form S = only_after _ (sound_gives form) (only_gives form S)

pub solid_lone : (w : Keyword) (form : StmtForm) → Solid (Lone w form)
solid_lone w form = solid_after _ (sound_gives form)

pub leads_lone : (w : Keyword) (form : StmtForm) {R : Stops} → Leads (Lone w form) R (IsKind (kind.Keyword w))
leads_lone w form {R = R} = leads_after (Gives form) (kind.Keyword w) R (IsKind (kind.Keyword w)) (λ ts i h. h)

-- What a simple statement says

-- all of one form
pub record Laws (X : Shape StmtForm) (T : Stops) : Type 0 where
  pub good : Good X
  pub only : Only X EndsSimple
  pub solid : Solid X
  pub leads : Leads X Anywhere T

-- a form that begins with a keyword, or another that doesn't
pub laws_either : {X Y : Shape StmtForm} {T V : Stops} → Laws X T → Laws Y V → Clash T V → Laws (Either X Y) (λ ts i. T ts i ⊎ V ts i)
laws_either x y clash = record {
  good = good_either x.good y.good;
  only = only_either x.good.sound y.good.sound x.only y.only (leads_anyhow x.leads) (leads_anyhow y.leads) clash;
  solid = solid_either x.solid y.solid;
  leads = leads_either (leads_wider x.leads (λ ts i h. inl h)) (leads_wider y.leads (λ ts i h. inr h));
}

abbrev pub IsWord : Keyword → Stops
IsWord w = IsKind (kind.Keyword w)

abbrev pub BeginsGlobal : Stops
BeginsGlobal ts i = IsWord word.Global ts i ⊎ BeginsLow ts i

abbrev pub BeginsRaise : Stops
BeginsRaise ts i = IsWord word.Raise ts i ⊎ BeginsGlobal ts i

abbrev pub BeginsReturn : Stops
BeginsReturn ts i = IsWord word.Return ts i ⊎ BeginsRaise ts i

abbrev pub BeginsContinue : Stops
BeginsContinue ts i = IsWord word.Continue ts i ⊎ BeginsReturn ts i

abbrev pub BeginsBreak : Stops
BeginsBreak ts i = IsWord word.Break ts i ⊎ BeginsContinue ts i

-- what a simple statement begins with
abbrev pub BeginsSimple : Stops
BeginsSimple ts i = IsWord word.Pass ts i ⊎ BeginsBreak ts i

abbrev pub FromGlobal : Shape StmtForm
FromGlobal = Either Global Assigned

abbrev pub FromRaise : Shape StmtForm
FromRaise = Either Raise FromGlobal

abbrev pub FromReturn : Shape StmtForm
FromReturn = Either Return FromRaise

abbrev pub FromContinue : Shape StmtForm
FromContinue = Either (Lone word.Continue statement.Continue) FromReturn

abbrev pub FromBreak : Shape StmtForm
FromBreak = Either (Lone word.Break statement.Break) FromContinue

pub laws_lone : (w : Keyword) (form : StmtForm) → Laws (Lone w form) (IsWord w)
laws_lone w form = record { good = good_lone w form; only = only_lone w form EndsSimple; solid = solid_lone w form; leads = leads_lone w form }

pub laws_assigned : Laws Assigned BeginsLow
laws_assigned = record { good = good_assigned; only = only_assigned; solid = solid_assigned; leads = leads_assigned }

pub laws_global : Laws Global (IsWord word.Global)
laws_global = record { good = good_global; only = only_global; solid = solid_global; leads = leads_global }

pub laws_raise : Laws Raise (IsWord word.Raise)
laws_raise = record { good = good_raise; only = only_raise; solid = solid_raise; leads = leads_raise }

pub laws_return : Laws Return (IsWord word.Return)
laws_return = record { good = good_return; only = only_return; solid = solid_return; leads = leads_return }

pub word_low : (w : Keyword) → 22 ≤ kind_code (kind.Keyword w) → Clash (IsWord w) BeginsLow
word_low w high = clash_back (low_is_not (kind.Keyword w) high)

words : (w v : Keyword) → (w ≡ v → ⊥) → Clash (IsWord w) (IsWord v)
words w v apart = kinds_clash (kind.Keyword w) (kind.Keyword v) (λ e. apart cc)

pub laws_from_global : Laws FromGlobal BeginsGlobal
laws_from_global = laws_either laws_global laws_assigned (word_low word.Global (omega arith))

pub raise_apart : Clash (IsWord word.Raise) BeginsGlobal
raise_apart = clash_with_either (words word.Raise word.Global (λ e. cc)) (word_low word.Raise (omega arith))

pub laws_from_raise : Laws FromRaise BeginsRaise
laws_from_raise = laws_either laws_raise laws_from_global raise_apart

pub return_apart : Clash (IsWord word.Return) BeginsRaise
return_apart = clash_with_either (words word.Return word.Raise (λ e. cc)) (clash_with_either (words word.Return word.Global (λ e. cc)) (word_low word.Return (omega arith)))

pub laws_from_return : Laws FromReturn BeginsReturn
laws_from_return = laws_either laws_return laws_from_raise return_apart

pub continue_apart : Clash (IsWord word.Continue) BeginsReturn
continue_apart =
    clash_with_either (words word.Continue word.Return (λ e. cc))
    (clash_with_either (words word.Continue word.Raise (λ e. cc)) (clash_with_either (words word.Continue word.Global (λ e. cc)) (word_low word.Continue (omega arith))))

pub laws_from_continue : Laws FromContinue BeginsContinue
laws_from_continue = laws_either (laws_lone word.Continue statement.Continue) laws_from_return continue_apart

pub break_apart : Clash (IsWord word.Break) BeginsContinue
break_apart =
    clash_with_either (words word.Break word.Continue (λ e. cc))
    (clash_with_either (words word.Break word.Return (λ e. cc))
    (clash_with_either (words word.Break word.Raise (λ e. cc)) (clash_with_either (words word.Break word.Global (λ e. cc)) (word_low word.Break (omega arith)))))

pub laws_from_break : Laws FromBreak BeginsBreak
laws_from_break = laws_either (laws_lone word.Break statement.Break) laws_from_continue break_apart

pub pass_apart : Clash (IsWord word.Pass) BeginsBreak
pass_apart =
    clash_with_either (words word.Pass word.Break (λ e. cc))
    (clash_with_either (words word.Pass word.Continue (λ e. cc))
    (clash_with_either (words word.Pass word.Return (λ e. cc))
    (clash_with_either (words word.Pass word.Raise (λ e. cc)) (clash_with_either (words word.Pass word.Global (λ e. cc)) (word_low word.Pass (omega arith))))))

pub laws_form : Laws SimpleForm BeginsSimple
unfolding SimpleForm Assigned
laws_form = laws_either (laws_lone word.Pass statement.Pass) laws_from_break pass_apart

-- Simple statements

pub good_simple : Good Simple
unfolding Simple
good_simple = good_of _ (good_placed (solid_front laws_form.solid sound_here) (good_seq laws_form.good good_here))

pub leads_end : (S : Stops) → Leads Here S S
leads_end S = record { leads = λ {ts} h r. subst (S ts) h.end r }

pub only_simple : Only Simple EndsSimple
unfolding Simple
only_simple = only_of _ (only_placed (solid_front laws_form.solid sound_here) (only_seq laws_form.good.sound sound_here laws_form.only (leads_end EndsSimple) (only_here EndsSimple)))

pub solid_simple : Solid Simple
unfolding Simple
solid_simple = solid_of _ (solid_placed (solid_front laws_form.solid sound_here))

pub leads_simple : {R : Stops} → Leads Simple R BeginsSimple
unfolding Simple
leads_simple {R = R} = leads_of _ (leads_placed (leads_seq laws_form.leads (leads_anywhere Here R)))

-- no simple statement begins with such a token
pub no_simple : (k : TokenKind) → 22 ≤ kind_code k → (kind.Keyword word.Pass ≡ k → ⊥) → (kind.Keyword word.Break ≡ k → ⊥) → (kind.Keyword word.Continue ≡ k → ⊥) → (kind.Keyword word.Return ≡ k → ⊥) → (kind.Keyword word.Raise ≡ k → ⊥)
    → (kind.Keyword word.Global ≡ k → ⊥) → Clash BeginsSimple (IsKind k)
no_simple k high a b c d e f =
    clash_either (kinds_clash _ k a)
    (clash_either (kinds_clash _ k b) (clash_either (kinds_clash _ k c) (clash_either (kinds_clash _ k d) (clash_either (kinds_clash _ k e) (clash_either (kinds_clash _ k f) (low_is_not k high))))))

-- Lines

abbrev pub IsNewline : Stops
IsNewline = IsKind kind.Newline

pub no_simple_newline : Clash BeginsSimple IsNewline
no_simple_newline = no_simple kind.Newline (omega arith) (λ e. cc) (λ e. cc) (λ e. cc) (λ e. cc) (λ e. cc) (λ e. cc)

abbrev pub Simples : Shape (List Stmt)
Simples = Listed (kind.Operator sign.Semicolon) Simple

pub good_simples : Good Simples
good_simples = good_listed _ good_simple

pub semicolon_apart : Clash (IsKind (kind.Operator sign.Semicolon)) IsNewline
semicolon_apart = kinds_clash (kind.Operator sign.Semicolon) kind.Newline (λ e. cc)

pub only_simples : Only Simples IsNewline
only_simples = only_listed _ good_simple.sound only_simple leads_simple no_simple_newline semicolon_apart (λ ts i h. inl h) (λ ts i h. inr h)

pub good_line : Good Line
unfolding Line
good_line = good_before _ good_simples

pub only_line : (S : Stops) → Only Line S
unfolding Line
only_line S = only_before kind.Newline S good_simples.sound only_simples (λ ts i h. h)

pub solid_line : Solid Line
unfolding Line
solid_line = solid_before _ good_simples.sound

pub leads_line : {R : Stops} → Leads Line R BeginsSimple
unfolding Line
leads_line {R = R} = leads_of _ (leads_seq (leads_listed _ leads_simple) (leads_anywhere (Token kind.Newline) R))
