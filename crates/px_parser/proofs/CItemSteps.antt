-- How what begins with `cdef` in a module is read: as a function or as a declaration.
use Rattle.std.proofs.Common.{◌≡◌, ℕ, suc, ◌+◌, ◌≤◌, ◌<◌, inl, inr, false, List, [], ◌∷◌, Option, map, length, refl, sym, ap, ap₂, ◌∙◌, subst, arith}
use Rattle.px_lexer.specs.declared.spelling.Keyword.TheVariants as word
use Rattle.px_lexer.specs.declared.spelling.Operator.TheVariants as sign
use Rattle.px_lexer.specs.declared.token_list.TokenKind.TheVariants as kind
use Rattle.px_lexer.specs.declared.token_list.Tokens.{Tokens}
use Rattle.px_tree.specs.declared.typings.«Type».{«Type» as Typing}
use Rattle.px_tree.specs.declared.modules.ResultType.{ResultType}
use Rattle.px_tree.specs.declared.modules.ResultType.TheVariants as result_type
use Rattle.px_tree.specs.declared.modules.FunctionKind.TheVariants as function_kind
use Rattle.px_base.specs.declared.refusals.Span.{Span}
use Rattle.px_tree.specs.declared.expressions.Expr.{Expr}
use Rattle.px_tree.specs.declared.statements.Stmt.{Stmt}
use Rattle.px_tree.specs.declared.statements.StmtForm.TheVariants as statement
use Rattle.px_tree.specs.declared.statements.Declarator.{Declarator}
use Rattle.px_tree.specs.declared.modules.Decorator.{Decorator}
use Rattle.px_tree.specs.declared.modules.Param.{Param}
use Rattle.px_tree.specs.declared.modules.Lock.{Lock}
use Rattle.px_tree.specs.declared.modules.ExceptionForm.{ExceptionForm}
use Rattle.px_tree.specs.declared.modules.Function.{Function}
use Rattle.px_tree.specs.declared.modules.ModuleItem.{ModuleItem}
use Rattle.px_tree.specs.declared.modules.ModuleItem.TheVariants as module_item
use Rattle.px_exprs.specs.declared.readings.Unread.{Unread}
use Rattle.px_lexer.specs.Terminals.{terminals_of, Terminal, IsKeyword, IsOperator, IsAt, IsName}
use Rattle.px_exprs.specs.Readings.{Agree}
use Rattle.px_exprs.specs.Runs.{nesting_limit}
use Rattle.px_exprs.proofs.Agreement.{agree_back, agree_carried}
use Rattle.px_exprs.proofs.Keeping.{kind_carried}
use Rattle.px_parser.specs.Shapes.{Mode, Many, Either}
use Rattle.px_parser.specs.Readings.{IsReading, IsUnread, IsStuck, IsReached, IsArrived, Anywhere}
use Rattle.px_parser.specs.Listings.{IsListing}
use Rattle.px_parser.specs.Ends.{EndsName, EndsDecorators, IsBefore}
use Rattle.px_parser.specs.StatementGrammar.{Declare, alone, statement_node, declaration_of}
use Rattle.px_parser.specs.ModuleGrammar.{FunctionForm, DecoratorLine, Rest, Result, one_function, function_of}
use Rattle.px_parser.specs.Parts.{CItem, ResultName, HeadRead, TypedName, DeclRest}
use Rattle.px_parser.proofs.Shapely.{good_of}
use Rattle.px_parser.proofs.Onlies.{Sees, leads_wider}
use Rattle.px_parser.proofs.Steps.{Step, Part, Inside, late, fails_late, fails, step_twice, step_first, step_second, reached_here, reached_made, reached_whole, sees_strict}
use Rattle.px_parser.proofs.ReadingSteps.{step_back, step_made, step_ends, read_absent, kind_read}
use Rattle.px_lexer.proofs.TokenAccess.{length_terminals}
use Rattle.px_parser.proofs.TokenSteps
use Rattle.px_parser.proofs.KindLaws.{other_kind}
use Rattle.px_parser.proofs.ForkSteps.{Nowhere}
use Rattle.px_parser.proofs.BlockShapes.{good_block}
use Rattle.px_parser.proofs.TypedNames.{good_result_name, only_result_name}
use Rattle.px_parser.proofs.VariableShapes.{declarator_of, good_declare, good_declared, good_typed_name, only_typed_name, good_decl_rest, leads_decl_rest}
use Rattle.px_parser.proofs.DeclareReading.{declared_step, line_step, line_whole, declared_read, line_read, declared_inside}
use Rattle.px_parser.proofs.FunctionShapes.{FunctionHead, good_function, good_rest, leads_rest, good_some_head, only_some_head, good_c_head_read, InlineResult, good_inline_result, good_inline, only_inline, good_named_result, leads_named_result, opening_ends_name}
use Rattle.px_parser.proofs.HeadReading.{cdef_read, behind_word, step_result, step_c, c_head_read, IsInline, head_named, head_spelled, head_read, IsHead}
use Rattle.px_parser.proofs.FunctionSteps.{no_decorators, decorators_read, step_head, behind_decorators, function_read}
use Rattle.px_parser.proofs.CItems.{not_both, CFunction, CDeclaration, c_function, c_declaration, c_function_next, c_declaration_next, no_opening}
use Rattle.px_parser.proofs.ItemShapes.{FunctionItems}
use Rattle.px_parser.proofs.ItemSteps.{Declares}

-- tokens with `cdef` at an index
pub record HasCdef (tokens : Tokens) (i : ℕ) : Type 0 where
  pub listing : IsListing tokens
  pub inside : i < length tokens.list
  pub cdef : IsKeyword (terminals_of tokens) i word.Cdef

-- Functions

no_decorators_here : (tokens : Tokens) (i room : ℕ) → HasCdef tokens i → IsReading (Many DecoratorLine) EndsDecorators (terminals_of tokens) i room [] i
no_decorators_here tokens i room b = decorators_read room (no_decorators tokens i [] refl b.inside) (λ at. not_both (λ q. cc) b.cdef at)

step_head_read : {tokens : Tokens} {i room : ℕ} → HasCdef tokens i → Step HeadRead (IsBefore (kind.Operator sign.OpenParenthesis)) FunctionForm Anywhere (terminals_of tokens) i i room
step_head_read {tokens} {i} {room} b =
    step_twice step_head
    (step_twice (step_first (terminals_of tokens) i room good_some_head.sound good_some_head.rises (λ (head : FunctionHead). (good_rest head.0 good_block).fresh) (λ (head : FunctionHead). leads_rest head.0)) (behind_decorators (no_decorators_here tokens i room b)))

step_inline_result : {tokens : Tokens} {i room : ℕ} → HasCdef tokens i → Step InlineResult EndsName FunctionForm Anywhere (terminals_of tokens) i (suc i) room
step_inline_result {tokens} {i} {room} b =
    step_twice (behind_word (cdef_read tokens i (suc i) room b.listing b.cdef refl))
    (step_twice (step_ends good_c_head_read opening_ends_name) (step_twice (step_c (λ def. not_both (λ q. cc) b.cdef def)) (step_head_read b)))

next_inside : {tokens : Tokens} {i : ℕ} → HasCdef tokens i → suc i < length (terminals_of tokens)
next_inside {tokens} {i} b = (cdef_read tokens i (suc i) 0 b.listing b.cdef refl).within

reached_function : {tokens : Tokens} {i : ℕ} (room : ℕ) → HasCdef tokens i → IsReached FunctionForm (terminals_of tokens) i (suc i) room
reached_function {tokens} {i} room b = reached_made (step_inline_result b) (omega arith) (reached_here (terminals_of tokens) (suc i) room good_inline_result.fresh (omega (arith, next_inside b)))

-- Declarations

reached_declare : {tokens : Tokens} {i : ℕ} (room : ℕ) → HasCdef tokens i → IsReached Declare (terminals_of tokens) i (suc i) room
reached_declare {tokens} {i} room b =
    let ts = terminals_of tokens in
    reached_made (line_whole ts i room) (omega arith)
    (reached_made (step_twice (TokenSteps.step_after Anywhere ts i room good_declared b.cdef) (line_step ts i room)) (omega arith) (reached_here ts (suc i) room good_declared.fresh (omega (arith, next_inside b))))

-- with `inline` there, it is a function

pub inline_refused : {tokens : Tokens} {i : ℕ} (room : ℕ) → HasCdef tokens i → IsKeyword (terminals_of tokens) (suc i) word.Inline → (u : Unread) → IsUnread FunctionForm Anywhere (terminals_of tokens) i room u → IsUnread CItem Anywhere (terminals_of tokens) i room u
unfolding CItem
inline_refused {tokens} {i} room b inline u h =
    fails_late ts i room (suc i) inside only u (late (good_function good_block).rises (reached_function room b) u h) (fails (step_made one_function (good_function good_block)) u h)
  where
    ts : List Terminal
    ts = terminals_of tokens

    inside : Inside FunctionItems CItem
    inside = record { there = λ {t = t} x. (t, Either.left x) }

    only : (us : List Terminal) → Agree (suc (suc i)) us ts → (mode : Mode) (f : List ModuleItem) (n j : ℕ) → CItem mode us i f n j → Anywhere us j → Part FunctionItems Anywhere mode us i n
    only us agree mode f n j (Either.left x) stop = record { tree = f; end = j; derived = x; stops = tt }
    only us agree mode f n j (Either.right x) stop =
        let there : IsKeyword us (suc i) word.Inline = kind_carried (suc (suc i)) agree inline (omega arith) in
        absurd (elim (c_declaration_next (c_declaration x.read.inner x.read.read)) [
          | inl colon ↦ not_both (λ q. cc) there colon
          | inr name ↦ not_both (λ q. cc) there name
        ])

pub inline_read : {ts : List Terminal} {i room to : ℕ} {f : Function} (items : List ModuleItem) → IsReading FunctionForm Anywhere ts i room f to → items ≡ module_item.Function f ∷ [] → IsReading CItem Anywhere ts i room items to
unfolding CItem
inline_read {f = f} items h same = record { derived = Either.left (record { inner = f; read = h.derived; tree = same }); stops = tt; within = h.within }

-- with a colon there, it is a group

pub group_refused : {tokens : Tokens} {i : ℕ} (room : ℕ) → HasCdef tokens i → IsOperator (terminals_of tokens) (suc i) sign.Colon → (u : Unread) → IsUnread Declare Anywhere (terminals_of tokens) i room u → IsUnread CItem Anywhere (terminals_of tokens) i room u
unfolding CItem
group_refused {tokens} {i} room b colon u h =
    fails_late ts i room (suc i) inside only u (late good_declare.rises (reached_declare room b) u h) (fails (step_twice (step_made alone good_declare) (step_made (map module_item.Statement) (good_of alone good_declare))) u h)
  where
    ts : List Terminal
    ts = terminals_of tokens

    inside : Inside Declares CItem
    inside = record { there = λ {t = t} x. (t, Either.right x) }

    only : (us : List Terminal) → Agree (suc (suc i)) us ts → (mode : Mode) (f : List ModuleItem) (n j : ℕ) → CItem mode us i f n j → Anywhere us j → Part Declares Anywhere mode us i n
    only us agree mode f n j (Either.left x) stop =
        let there : IsOperator us (suc i) sign.Colon = kind_carried (suc (suc i)) agree colon (omega arith) in
        absurd (elim (c_function_next (c_function x.inner (kind_carried (suc (suc i)) agree b.cdef (omega arith)) x.read)) [
          | inl inline ↦ not_both (λ q. cc) there inline
          | inr name ↦ not_both (λ q. cc) there name
        ])
    only us agree mode f n j (Either.right x) stop = record { tree = f; end = j; derived = x; stops = tt }

pub declare_read : {ts : List Terminal} {i room to : ℕ} {s : Stmt} (items : List ModuleItem) → IsReading Declare Anywhere ts i room s to → items ≡ module_item.Statement s ∷ [] → IsReading CItem Anywhere ts i room items to
unfolding CItem
declare_read {s = s} items h same = record { derived = Either.right (record { inner = s ∷ []; read = record { inner = s; read = h.derived; tree = refl }; tree = same }); stops = tt; within = h.within }

-- else it is told behind the name

pub record IsPlain (tokens : Tokens) (i : ℕ) : Type 0 where
  pub begun : HasCdef tokens i
  pub no_colon : IsOperator (terminals_of tokens) (suc i) sign.Colon → ⊥
  pub no_inline : IsKeyword (terminals_of tokens) (suc i) word.Inline → ⊥

no_group : {tokens : Tokens} {i : ℕ} → IsPlain tokens i → {us : List Terminal} → Agree (suc (suc i)) us (terminals_of tokens) → IsOperator us (suc i) sign.Colon → ⊥
no_group {tokens} {i} p {us} agree colon = p.no_colon (kind_carried (suc (suc i)) (agree_back us (terminals_of tokens) agree) colon (omega arith))

no_inlined : {tokens : Tokens} {i : ℕ} → IsPlain tokens i → {us : List Terminal} → Agree (suc (suc i)) us (terminals_of tokens) → IsKeyword us (suc i) word.Inline → ⊥
no_inlined {tokens} {i} p {us} agree inline = p.no_inline (kind_carried (suc (suc i)) (agree_back us (terminals_of tokens) agree) inline (omega arith))

step_function_name : {tokens : Tokens} {i room : ℕ} → IsPlain tokens i → Step ResultName EndsName FunctionForm Anywhere (terminals_of tokens) i (suc i) room
step_function_name {tokens} {i} {room} p =
    step_twice step_result
    (step_twice (step_back good_inline good_named_result only_inline (leads_wider leads_named_result (λ us k g. other_kind (λ f. cc) us k g)) (read_absent _ false p.no_inline (next_inside p.begun))) (step_inline_result p.begun))

pub step_named : {tokens : Tokens} {i room : ℕ} → IsPlain tokens i → Step ResultName EndsName CItem Anywhere (terminals_of tokens) i (suc i) room
unfolding CItem
step_named {tokens} {i} {room} p =
    let step = step_function_name {room = room} p in
    record {
      forward = step.forward;
      rising = step.rising;
      make = λ mode us n e agree long least le opens x.
          let made = step.make mode us n e agree long least le opens x in
          record { tokens = made.tokens; same = made.same; long = made.long; tree = one_function made.tree; derived = Either.left (record { inner = made.tree; read = made.derived; tree = refl }) };
      split = λ mode us n f j agree sees y stop. elim (y) [
        | Either.left x ↦ step.split mode us n x.inner j agree sees x.read tt
        | Either.right x ↦ (elim (c_declaration x.read.inner x.read.read) [
          | CDeclaration.group colon ↦ absurd (no_group p agree colon)
          | CDeclaration.plain d ↦ record { tree = (result_type.Of d.typing, d.number); end = d.end; derived = d.named; stops = (leads_decl_rest {R = Anywhere}).leads d.rest tt }
        ])
      ];
    }

-- what was read of the name, and of a function's head
abbrev pub Named : Tokens → ℕ → ResultType × ℕ → ℕ → Type 0
Named tokens i gives behind = (room : ℕ) → IsReading ResultName EndsName (terminals_of tokens) (suc i) room gives behind

named_long : (tokens : Tokens) (i behind : ℕ) (gives : ResultType × ℕ) → Named tokens i gives behind → suc i ≤ behind
named_long tokens i behind gives named = good_result_name.sound.forward (named 0).derived

pub plain_head : {tokens : Tokens} {i behind : ℕ} {gives : ResultType × ℕ} (room : ℕ) → IsPlain tokens i → Named tokens i gives behind → IsOperator (terminals_of tokens) behind sign.OpenParenthesis
    → IsReading HeadRead (IsBefore (kind.Operator sign.OpenParenthesis)) (terminals_of tokens) i room (function_kind.Cdef, (false, gives)) behind
plain_head {tokens} {i} {behind} {gives} room p named bracket =
    head_read (terminals_of tokens) i behind room (function_kind.Cdef, (false, gives))
    (IsHead.c (λ def. not_both (λ q. cc) p.begun.cdef def) (λ space. c_head_read tokens i (suc i) (suc i) behind space function_kind.Cdef false gives p.begun.listing (cdef_read tokens i (suc i) space p.begun.listing p.begun.cdef refl) (IsInline.plain refl p.no_inline refl) (named space))) bracket

step_function_rest : {tokens : Tokens} {i behind : ℕ} {gives : ResultType × ℕ} (room : ℕ) → IsPlain tokens i → Named tokens i gives behind → IsOperator (terminals_of tokens) behind sign.OpenParenthesis
    → Step (Rest function_kind.Cdef) Anywhere FunctionForm Anywhere (terminals_of tokens) i behind room
step_function_rest {tokens} {i} {behind} {gives} room p named bracket =
    let read = plain_head room p named bracket in
    let spelled = head_spelled read in
    let known = head_named read spelled.1 in
    let whole : FunctionHead = (function_kind.Cdef, (false, (gives.0, (gives.1, spelled.0)))) in
    step_twice (step_second (terminals_of tokens) i behind room whole good_some_head.sound good_some_head.rises only_some_head (λ (x : FunctionHead). leads_rest x.0) (good_rest function_kind.Cdef good_block).rises known.derived known.stops)
    (behind_decorators (no_decorators_here tokens i room p.begun))

pub step_rest : {tokens : Tokens} {i behind : ℕ} {gives : ResultType × ℕ} (room : ℕ) → IsPlain tokens i → Named tokens i gives behind → IsOperator (terminals_of tokens) behind sign.OpenParenthesis
    → Step (Rest function_kind.Cdef) Anywhere CItem Anywhere (terminals_of tokens) i behind room
unfolding CItem
step_rest {tokens} {i} {behind} {gives} room p named bracket =
    let ts = terminals_of tokens in
    let step = step_function_rest room p named bracket in
    let long = named_long tokens i behind gives named in
    record {
      forward = step.forward;
      rising = step.rising;
      make = λ mode us n e agree long least le opens x.
          let made = step.make mode us n e agree long least le opens x in
          record { tokens = made.tokens; same = made.same; long = made.long; tree = one_function made.tree; derived = Either.left (record { inner = made.tree; read = made.derived; tree = refl }) };
      split = λ mode us n f j agree sees y stop. elim (y) [
        | Either.left x ↦ step.split mode us n x.inner j agree sees x.read tt
        | Either.right x ↦ absurd (elim (c_declaration x.read.inner x.read.read) [
          | CDeclaration.group colon ↦ no_group p (agree_carried us ts agree (omega (arith, long))) colon
          | CDeclaration.plain d ↦ (
              let same = only_result_name.one (named room).derived (named room).stops d.named ((leads_decl_rest {R = Anywhere}).leads d.rest tt) agree (sees_strict nesting_limit behind) sees in
              no_opening mode us d.end n j d.tree d.rest (subst (λ k. IsOperator us k sign.OpenParenthesis) same.1 (kind_carried (suc behind) agree bracket (omega arith))))
        ])
      ];
    }

-- Declarations behind the name

no_void : (typing : Typing) → result_type.Of typing ≡ result_type.Void → ⊥
no_void typing e = cc

no_unwritten : (typing : Typing) → result_type.Of typing ≡ result_type.Unwritten → ⊥
no_unwritten typing e = cc

one_typing : (typing other : Typing) → result_type.Of typing ≡ result_type.Of other → typing ≡ other
one_typing typing other e = cc

pub typed_of_result : {ts : List Terminal} {i behind room number : ℕ} {typing : Typing} → IsReading ResultName EndsName ts i room (result_type.Of typing, number) behind → IsReading TypedName EndsName ts i room (typing, number) behind
unfolding ResultName TypedName Result
typed_of_result {ts} {i} {behind} {room} {number} {typing} h =
    let whole = h.derived in
    let parts = whole.read in
    let told : result_type.Of typing ≡ whole.inner.0 = ap (λ (q : ResultType × ℕ). q.0) whole.tree in
    let counted : number ≡ whole.inner.1.0 = ap (λ (q : ResultType × ℕ). q.1) whole.tree in
    elim (parts.first) [
      | Either.left (Either.left void) ↦ absurd (no_void typing (told ∙ void.tree))
      | Either.left (Either.right written) ↦ (
          let same : typing ≡ written.inner = one_typing typing written.inner (told ∙ written.tree) in
          record { derived = record { inner = (written.inner, whole.inner.1); read = record { middle = parts.middle; first = written.read; second = parts.second }; tree = ap₂ (λ t k. (t, k)) same counted }; stops = h.stops; within = h.within })
      | Either.right none ↦ absurd (no_unwritten typing (told ∙ none.tree))
    ]

step_declare_rest : {tokens : Tokens} {i behind number : ℕ} {typing : Typing} (room : ℕ) → IsPlain tokens i → Named tokens i (result_type.Of typing, number) behind → Step DeclRest Anywhere Declare Nowhere (terminals_of tokens) i behind room
step_declare_rest {tokens} {i} {behind} {number} {typing} room p named =
    let ts = terminals_of tokens in
    let typed = typed_of_result (named room) in
    step_twice (step_second ts (suc i) behind room (typing, number) good_typed_name.sound good_typed_name.rises only_typed_name (λ b. leads_decl_rest) good_decl_rest.rises typed.derived typed.stops)
    (step_twice (declared_step ts (suc i) room) (step_twice (TokenSteps.step_after Anywhere ts i room good_declared p.begun.cdef) (step_twice (line_step ts i room) (line_whole ts i room))))

function_bracket : {tokens : Tokens} {i behind : ℕ} {gives : ResultType × ℕ} (room : ℕ) → IsPlain tokens i → Named tokens i gives behind → (IsOperator (terminals_of tokens) behind sign.OpenParenthesis → ⊥)
    → {mode : Mode} {us : List Terminal} {n j : ℕ} {f : List ModuleItem} → Agree (suc behind) us (terminals_of tokens) → Sees mode behind → FunctionItems mode us i f n j → ⊥
function_bracket {tokens} {i} {behind} {gives} room p named none {mode} {us} {n} {j} agree sees x =
    let ts = terminals_of tokens in
    let long = named_long tokens i behind gives named in
    let cdef : IsKeyword us i word.Cdef = kind_carried (suc behind) agree p.begun.cdef (omega (arith, long)) in
    elim (c_function x.inner cdef x.read) [
      | CFunction.inlined w longer ↦ no_inlined p (agree_carried us ts agree (omega (arith, long))) w
      | CFunction.plain f ↦ (
          let bracket : IsOperator us f.end sign.OpenParenthesis = (leads_rest function_kind.Cdef {R = Anywhere}).leads f.rest tt in
          let same = only_result_name.one (named room).derived (named room).stops f.named (opening_ends_name us f.end bracket) agree (sees_strict nesting_limit behind) sees in
          let there : IsOperator us behind sign.OpenParenthesis = subst (λ k. IsOperator us k sign.OpenParenthesis) (sym same.1) bracket in
          none (kind_carried (suc behind) (agree_back us ts agree) there (omega arith)))
    ]

pub step_decl_rest : {tokens : Tokens} {i behind number : ℕ} {typing : Typing} (room : ℕ) → IsPlain tokens i → Named tokens i (result_type.Of typing, number) behind → (IsOperator (terminals_of tokens) behind sign.OpenParenthesis → ⊥)
    → Step DeclRest Anywhere CItem Anywhere (terminals_of tokens) i behind room
unfolding CItem
step_decl_rest {tokens} {i} {behind} {number} {typing} room p named none =
    let ts = terminals_of tokens in
    let step = step_declare_rest room p named in
    let long = named_long tokens i behind (result_type.Of typing, number) named in
    record {
      forward = step.forward;
      rising = step.rising;
      make = λ mode us n e agree long least le opens x.
          let made = step.make mode us n e agree long least le opens x in
          record {
            tokens = made.tokens;
            same = made.same;
            long = made.long;
            tree = module_item.Statement made.tree ∷ [];
            derived = Either.right (record { inner = made.tree ∷ []; read = record { inner = made.tree; read = made.derived; tree = refl }; tree = refl });
          };
      split = λ mode us n f j agree sees y stop. elim (y) [
        | Either.left x ↦ absurd (function_bracket room p named none agree sees x)
        | Either.right x ↦ (elim (c_declaration x.read.inner x.read.read) [
          | CDeclaration.group colon ↦ absurd (no_group p (agree_carried us ts agree (omega (arith, long))) colon)
          | CDeclaration.plain d ↦ (
              let same = only_result_name.one (named room).derived (named room).stops d.named ((leads_decl_rest {R = Anywhere}).leads d.rest tt) agree (sees_strict nesting_limit behind) sees in
              record { tree = d.tree; end = j; derived = subst (λ k. DeclRest mode us k d.tree n j) (sym same.1) d.rest; stops = tt })
        ])
      ];
    }

-- neither a type nor parameters: it is no item
pub untyped_stuck : {tokens : Tokens} {i behind : ℕ} {gives : ResultType × ℕ} (room : ℕ) → IsPlain tokens i → Named tokens i gives behind → (IsOperator (terminals_of tokens) behind sign.OpenParenthesis → ⊥)
    → ((typing : Typing) → gives.0 ≡ result_type.Of typing → ⊥) → IsStuck CItem Anywhere (terminals_of tokens) i room behind
unfolding CItem
untyped_stuck {tokens} {i} {behind} {gives} room p named none untyped =
    let ts = terminals_of tokens in
    let long = named_long tokens i behind gives named in
    record {
      forward = omega (arith, long);
      within = (named 0).within;
      reached = IsArrived.reached (reached_made (step_named p) long (reached_whole ts (suc i) behind room gives good_result_name.sound good_result_name.rises (named room).derived (omega (arith, (named 0).within))));
      none = λ us agree limit tree blocks j y stop. elim (y) [
        | Either.left x ↦ function_bracket room p named none agree (sees_strict limit behind) x
        | Either.right x ↦ (elim (c_declaration x.read.inner x.read.read) [
          | CDeclaration.group colon ↦ no_group p (agree_carried us ts agree (omega (arith, long))) colon
          | CDeclaration.plain d ↦ (
              let same = only_result_name.one (named room).derived (named room).stops d.named ((leads_decl_rest {R = Anywhere}).leads d.rest tt) agree (sees_strict nesting_limit behind) (sees_strict limit behind) in
              untyped d.typing (ap (λ (q : ResultType × ℕ). q.0) same.0))
        ])
      ];
    }

-- What was read whole

pub function_item : {tokens : Tokens} {i behind j room : ℕ} {gives : ResultType × ℕ} {rest : List Param × ((ExceptionForm × Lock) × List Stmt)} {xs : List Decorator} {at header_at : Span} {spelled : List ℕ} {f : Function} (items : List ModuleItem) → IsPlain tokens i → Named tokens i gives behind
    → IsOperator (terminals_of tokens) behind sign.OpenParenthesis → IsReading (Rest function_kind.Cdef) Anywhere (terminals_of tokens) behind room rest j → xs ≡ [] → IsAt (terminals_of tokens) i at → IsAt (terminals_of tokens) i header_at
    → IsName (terminals_of tokens) gives.1 spelled → f ≡ function_of at xs header_at (function_kind.Cdef, (false, (gives.0, (gives.1, spelled)))) rest → items ≡ module_item.Function f ∷ [] → IsReading CItem Anywhere (terminals_of tokens) i room items j
function_item {tokens} {i} {behind} {j} {room} {gives} {rest} {xs} {at} {header_at} {spelled} items p named bracket read none placed header known made same =
    let ts = terminals_of tokens in
    let decorators = decorators_read room (no_decorators tokens i xs none p.begun.inside) (λ sign. not_both (λ q. cc) p.begun.cdef sign) in
    let whole = function_read ts i i behind j room at header_at xs (function_kind.Cdef, (false, gives)) spelled rest placed header decorators (plain_head room p named bracket) known read in
    inline_read items (subst (λ g. IsReading FunctionForm Anywhere ts i room g j) (sym made) whole) same

pub declaration_item : {tokens : Tokens} {i behind j number room : ℕ} {typing : Typing} {r : Option Expr × (List Declarator × ℕ)} {all : List Declarator} {s : Stmt} (items : List ModuleItem) → IsPlain tokens i → Named tokens i (result_type.Of typing, number) behind
    → IsReading DeclRest Anywhere (terminals_of tokens) behind room r j
    → ((at : Span) × (spelled : List ℕ) × IsAt (terminals_of tokens) number at × IsName (terminals_of tokens) number spelled × (all ≡ declarator_of number at spelled r.0 ∷ r.1.0))
    → ((at : Span) × IsAt (terminals_of tokens) i at × (s ≡ statement_node r.1.1 at (statement.Declare (declaration_of i at (typing, (all, r.1.1)))))) → items ≡ module_item.Statement s ∷ [] → IsReading CItem Anywhere (terminals_of tokens) i room items j
unfolding Declare
declaration_item {tokens} {i} {behind} {j} {number} {room} {typing} {r} {all} {s} items p named rest names node same =
    let ts = terminals_of tokens in
    let declared = declared_read ts (suc i) behind j room (typing, number) r all (typed_of_result (named room)) rest names in
    let line = line_read ts i (suc i) j room (typing, (all, r.1.1)) s (kind_read tokens i (suc i) room p.begun.listing p.begun.cdef (λ f. cc) refl) declared node in
    declare_read items (record { derived = Either.left line.derived; stops = tt; within = line.within }) same

-- where the names of the line end, a number of 32 bits holds their place
pub line_small : {tokens : Tokens} {i behind j number : ℕ} {typing : Typing} {r : Option Expr × (List Declarator × ℕ)} {all : List Declarator} → IsPlain tokens i → Named tokens i (result_type.Of typing, number) behind → IsReading DeclRest Anywhere (terminals_of tokens) behind 0 r j
    → ((at : Span) × (spelled : List ℕ) × IsAt (terminals_of tokens) number at × IsName (terminals_of tokens) number spelled × (all ≡ declarator_of number at spelled r.0 ∷ r.1.0)) → r.1.1 < 4294967296
line_small {tokens} {i} {behind} {j} {number} {typing} {r} {all} p named rest names =
    let declared = declared_read (terminals_of tokens) (suc i) behind j 0 (typing, number) r all (typed_of_result (named 0)) rest names in
    omega (arith, declared_inside (terminals_of tokens) (suc i) j 0 (typing, (all, r.1.1)) declared, length_terminals tokens, p.begun.listing.input.few)

-- The places of the code

pub at_next : (P : ℕ → Type 0) (i : ℕ) → P (i + 1) → P (suc i)
at_next P i h = let e : i + 1 ≡ suc i = omega arith in subst P e h

pub named_next : (tokens : Tokens) (i : ℕ) {behind : ℕ} {gives : ResultType × ℕ} → ((room : ℕ) → IsReading ResultName EndsName (terminals_of tokens) (i + 1) room gives behind) → Named tokens i gives behind
named_next tokens i {behind} {gives} h room = at_next (λ k. IsReading ResultName EndsName (terminals_of tokens) k room gives behind) i (h room)

pub plain_here : {tokens : Tokens} {i : ℕ} → HasCdef tokens i → (IsOperator (terminals_of tokens) (i + 1) sign.Colon → ⊥) → (IsKeyword (terminals_of tokens) (i + 1) word.Inline → ⊥) → IsPlain tokens i
plain_here {tokens} {i} b colon inline = record {
  begun = b;
  no_colon = at_next (λ k. IsOperator (terminals_of tokens) k sign.Colon → ⊥) i colon;
  no_inline = at_next (λ k. IsKeyword (terminals_of tokens) k word.Inline → ⊥) i inline;
}

pub named_refused : {tokens : Tokens} {i : ℕ} (room : ℕ) → IsPlain tokens i → (u : Unread) → IsUnread ResultName EndsName (terminals_of tokens) (i + 1) room u → IsUnread CItem Anywhere (terminals_of tokens) i room u
named_refused {tokens} {i} room p u h = fails (step_named p) u (at_next (λ k. IsUnread ResultName EndsName (terminals_of tokens) k room u) i h)
