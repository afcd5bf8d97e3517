-- How the parts of a function are read one behind the other.
use Rattle.std.proofs.Common.{◌≡◌, inl, inr, ℕ, suc, ◌<◌, Bool, List, [], ◌∷◌, ◌++◌, Option, length, sym, ap, ap₂, subst, ◌∙◌, arith}
use Rattle.px_base.specs.declared.refusals.Span.{Span}
use Rattle.px_lexer.specs.declared.spelling.Operator.TheVariants as sign
use Rattle.px_lexer.specs.declared.token_list.TokenKind.TheVariants as kind
use Rattle.px_lexer.specs.declared.token_list.Tokens.{Tokens}
use Rattle.px_tree.specs.declared.typings.«Type».{«Type» as Typing}
use Rattle.px_tree.specs.declared.statements.Stmt.{Stmt}
use Rattle.px_tree.specs.declared.modules.Decorator.{Decorator}
use Rattle.px_tree.specs.declared.modules.Param.{Param}
use Rattle.px_tree.specs.declared.modules.FunctionKind.{FunctionKind}
use Rattle.px_tree.specs.declared.modules.ResultType.{ResultType}
use Rattle.px_tree.specs.declared.modules.ExceptionForm.{ExceptionForm}
use Rattle.px_tree.specs.declared.modules.Lock.{Lock}
use Rattle.px_exprs.specs.declared.readings.Unread.{Unread}
use Rattle.px_lexer.specs.Terminals.{terminals_of, Terminal, IsName, IsOperator, IsAt}
use Rattle.px_exprs.specs.Runs.{nesting_limit}
use Rattle.px_exprs.specs.Readings.{Stops}
use Rattle.px_lexer.proofs.OneToken.{one_name}
use Rattle.px_exprs.proofs.Keeping.{kind_carried}
use Rattle.px_parser.specs.Shapes.{Shape, Token, Placed, Then, Many}
use Rattle.px_parser.specs.Parsing.{strict}
use Rattle.px_parser.specs.Readings.{IsReading, IsUnread, Anywhere}
use Rattle.px_parser.specs.Listings.{IsListing}
use Rattle.px_parser.specs.Ends.{EndsName, EndsParameter, EndsDecorators, IsBefore}
use Rattle.px_parser.specs.StatementGrammar.{Block}
use Rattle.px_parser.specs.ModuleGrammar.{DecoratorLine, NotNone, Parameter, Parameters, Tail, Rest, FunctionForm, function_of}
use Rattle.px_parser.specs.Parts.{MaybeTypedName, HeadRead}
use Rattle.px_parser.proofs.Shapely.{Good, good_placed}
use Rattle.px_parser.proofs.Onlies.{Leads, leads_anywhere, leads_placed, leads_wider}
use Rattle.px_parser.proofs.Steps.{Step, fails, step_first, step_second, step_twice, step_many, many_more}
use Rattle.px_parser.proofs.TypedNames.{only_maybe_typed, numbered_parts}
use Rattle.px_parser.proofs.BlockShapes.{good_block}
use Rattle.px_parser.proofs.ListedSteps.{Front, front_more, elements_ended, elements_last, step_elements}
use Rattle.px_parser.proofs.KindLaws.{kind_missing, kinds_apart}
use Rattle.px_parser.proofs.ReadingSteps.{read_both, read_of, read_after, read_before, read_placed, inside_terminals, kind_goes_on, step_front, step_back, step_made, step_word, step_after, step_before, step_end, step_placed, local_kind}
use Rattle.px_parser.proofs.FunctionReading.{step_inner}
use Rattle.px_parser.proofs.HeadReading.{head_spelled, head_named}
use Rattle.px_parser.proofs.FunctionShapes.{good_decorator_line, leads_decorator_line, only_decorator_line, good_decorators, only_decorators, good_not_none, leads_not_none, ParameterName, ParameterParts, good_parameter_name, good_parameter_parts, solid_parameter_parts, good_parameter, leads_parameter, only_parameter, good_parameters, only_parameters, FunctionBody, TailBody, RestParts, good_parameters_closed, only_parameters_closed, good_body, leads_body, good_tail, only_tail, good_tail_body, good_rest_parts, good_rest, leads_rest, FunctionHead, SomeHead, good_some_head, only_some_head, HeadRest, good_head_rest, solid_head_rest, leads_head_rest, FunctionParts, good_function_parts, solid_function_parts, head_ends_decorators}

-- Decorators

-- the decorators from an index on, as far as they were read
pub record AreDecorators (ts : List Terminal) (i : ℕ) (xs : List Decorator) (l : ℕ) : Type 0 where
  pub rest : (room : ℕ) → Many DecoratorLine (strict nesting_limit) ts i xs room l
  pub within : l < length ts

pub no_decorators : (tokens : Tokens) (i : ℕ) (xs : List Decorator) → xs ≡ [] → i < length tokens.list → AreDecorators (terminals_of tokens) i xs i
no_decorators tokens i xs e inside = record { rest = λ room. subst (λ ys. Many DecoratorLine (strict nesting_limit) (terminals_of tokens) i ys room i) (sym e) Many.none; within = inside_terminals tokens i inside }

pub decorators_more : {ts : List Terminal} {i l j : ℕ} {xs ys : List Decorator} {x : Decorator} → AreDecorators ts i xs l → ys ≡ xs ++ x ∷ [] → ((room : ℕ) → IsReading DecoratorLine Anywhere ts l room x j) → AreDecorators ts i ys j
decorators_more {ts = ts} {i = i} {j = j} before e h = record {
  rest = λ room. subst (λ zs. Many DecoratorLine (strict nesting_limit) ts i zs room j) (sym e) (many_more (before.rest room) (h room).derived);
  within = (h 0).within;
}

pub decorators_unread : (ts : List Terminal) (i l room : ℕ) (xs : List Decorator) (u : Unread) → AreDecorators ts i xs l → IsOperator ts l sign.At → IsUnread DecoratorLine Anywhere ts l room u → IsUnread (Many DecoratorLine) EndsDecorators ts i room u
decorators_unread ts i l room xs u before here h =
    fails (step_many {M = Anywhere} {S = EndsDecorators} {T = IsBefore (kind.Operator sign.At)} ts i l room xs good_decorator_line.sound good_decorator_line.rises only_decorator_line leads_decorator_line (kind_missing _) (λ us k g. tt) (λ us k g. tt)
    (before.rest room) (inr tt) (λ us agree s. s (kind_carried (suc l) agree here (omega arith)))) u h

pub decorators_read : {ts : List Terminal} {i l : ℕ} {xs : List Decorator} (room : ℕ) → AreDecorators ts i xs l → (IsOperator ts l sign.At → ⊥) → IsReading (Many DecoratorLine) EndsDecorators ts i room xs l
decorators_read room before stop = record { derived = before.rest room; stops = stop; within = before.within }

-- Parameters

pub maybe_spelled : {S : Stops} {ts : List Terminal} {i l room : ℕ} {p : Option Typing × ℕ} → IsReading MaybeTypedName S ts i room p l → ((spelled : List ℕ) × IsName ts p.1 spelled) × (p.1 < l)
unfolding MaybeTypedName
maybe_spelled {ts = ts} {l = l} {room = room} {p = p} h =
    let q = h.derived.inner in
    let parts = numbered_parts (strict nesting_limit) ts h.derived.read.middle room l q.1 h.derived.read.second in
    let number : p.1 ≡ q.1.0 = ap (λ (x : Option Typing × ℕ). x.1) h.derived.tree in
    ((q.1.1, subst (λ k. IsName ts k q.1.1) (sym (number ∙ parts.0)) parts.1), omega (arith, number, parts.0, parts.2))

pub maybe_named : {S : Stops} {ts : List Terminal} {i l room : ℕ} {p : Option Typing × ℕ} {name : List ℕ} → IsReading MaybeTypedName S ts i room p l → IsName ts p.1 name → IsReading ParameterName S ts i room (p.0, (p.1, name)) l
unfolding MaybeTypedName
maybe_named {S = S} {ts = ts} {i = i} {l = l} {room = room} {p = p} {name = name} h named =
    let q = h.derived.inner in
    let parts = numbered_parts (strict nesting_limit) ts h.derived.read.middle room l q.1 h.derived.read.second in
    let number : p.1 ≡ q.1.0 = ap (λ (x : Option Typing × ℕ). x.1) h.derived.tree in
    let same : name ≡ q.1.1 = one_name (subst (λ k. IsName ts k name) (number ∙ parts.0) named) parts.1 in
    let tree : (p.0, (p.1, name)) ≡ q = ap₂ (λ (x : Option Typing × ℕ) (y : List ℕ). (x.0, (x.1, y))) h.derived.tree same in
    let reading : IsReading ParameterName S ts i room q l = record { derived = h.derived.read; stops = h.stops; within = h.within } in
    subst (λ x. IsReading ParameterName S ts i room x l) (sym tree) reading

behind_parameter : {ts : List Terminal} {i room : ℕ} → Step ParameterParts EndsParameter Parameter EndsParameter ts i i room
unfolding Parameter
behind_parameter = step_twice (step_placed good_parameter_parts solid_parameter_parts) (step_made _ (good_placed solid_parameter_parts good_parameter_parts))

step_maybe_typed : {ts : List Terminal} {i room : ℕ} → Step MaybeTypedName EndsName ParameterName EndsName ts i i room
unfolding MaybeTypedName
step_maybe_typed = step_inner _ good_parameter_name

pub parameter_first : (ts : List Terminal) (i room : ℕ) (u : Unread) → IsUnread MaybeTypedName EndsName ts i room u → IsUnread Parameter EndsParameter ts i room u
parameter_first ts i room u h = fails (step_twice step_maybe_typed (step_twice (step_front good_parameter_name good_not_none leads_not_none) behind_parameter)) u h

pub parameter_second : (ts : List Terminal) (i l room : ℕ) (p : Option Typing × ℕ) (u : Unread) → IsReading MaybeTypedName EndsName ts i room p l → IsUnread NotNone EndsParameter ts l room u → IsUnread Parameter EndsParameter ts i room u
parameter_second ts i l room p u typed h = fails (step_twice (step_back good_parameter_name good_not_none only_maybe_typed leads_not_none (maybe_named typed (maybe_spelled typed).0.1)) behind_parameter) u h

pub parameter_read : (ts : List Terminal) (i l j room : ℕ) (at : Span) (p : Option Typing × ℕ) (name : List ℕ) (told : Bool) → IsAt ts i at → IsReading MaybeTypedName EndsName ts i room p l → IsName ts p.1 name → IsReading NotNone EndsParameter ts l room told j
    → IsReading Parameter EndsParameter ts i room (record { number = p.1; at = at; typing = p.0; name = name; is_not_none = told }) j
unfolding Parameter
parameter_read ts i l j room at p name told placed typed named behind = read_of _ (read_placed placed (read_both (maybe_named typed named) behind))

-- the parameters from an index on, each with its comma, as far as they were read
pub record AreParameters (ts : List Terminal) (i : ℕ) (xs : List Param) (l : ℕ) : Type 0 where
  pub rest : (room : ℕ) → Front (kind.Operator sign.Comma) Parameter (strict nesting_limit) ts i xs room l
  pub within : l < length ts

pub no_parameters : (tokens : Tokens) (i : ℕ) (xs : List Param) → xs ≡ [] → i < length tokens.list → AreParameters (terminals_of tokens) i xs i
no_parameters tokens i xs e inside = record {
  rest = λ room. subst (λ ys. Front (kind.Operator sign.Comma) Parameter (strict nesting_limit) (terminals_of tokens) i ys room i) (sym e) Many.none;
  within = inside_terminals tokens i inside;
}

-- a parameter ends with a comma where no bracket closes
pub comma_behind : {ts : List Terminal} {j : ℕ} → EndsParameter ts j → (IsOperator ts j sign.CloseParenthesis → ⊥) → IsOperator ts j sign.Comma
comma_behind (inl h) none = h
comma_behind (inr h) none = absurd (none h)

pub parameters_more : (tokens : Tokens) (i l j m : ℕ) (xs ys : List Param) (x : Param) → IsListing tokens → AreParameters (terminals_of tokens) i xs l → ys ≡ xs ++ x ∷ [] → ((room : ℕ) → IsReading Parameter EndsParameter (terminals_of tokens) l room x j)
    → (IsOperator (terminals_of tokens) j sign.CloseParenthesis → ⊥) → m ≡ suc j → AreParameters (terminals_of tokens) i ys m
parameters_more tokens i l j m xs ys x listing before e h none f =
    let comma = comma_behind (h 0).stops none in
    record {
      rest = λ room. subst (λ k. Front (kind.Operator sign.Comma) Parameter (strict nesting_limit) (terminals_of tokens) i ys room k) (sym f)
          (subst (λ zs. Front (kind.Operator sign.Comma) Parameter (strict nesting_limit) (terminals_of tokens) i zs room (suc j)) (sym e) (front_more (kind.Operator sign.Comma) (before.rest room) (h room).derived comma));
      within = inside_terminals tokens m (kind_goes_on tokens j m listing comma (λ g. cc) f);
    }

pub parameters_unread : (ts : List Terminal) (i l room : ℕ) (xs : List Param) (u : Unread) → AreParameters ts i xs l → (IsOperator ts l sign.CloseParenthesis → ⊥) → IsUnread Parameter EndsParameter ts l room u
    → IsUnread Parameters (IsBefore (kind.Operator sign.CloseParenthesis)) ts i room u
unfolding Parameters
parameters_unread ts i l room xs u before missing h =
    fails (step_elements {S = IsBefore (kind.Operator sign.CloseParenthesis)} (kind.Operator sign.Comma) ts i l room xs good_parameter.sound good_parameter.rises only_parameter leads_parameter (kinds_apart (λ e. cc)) (kinds_apart (λ e. cc)) (λ us k g. inl g) (λ us k g. inr g)
    (before.rest room) (λ us agree s. missing (local_kind (kind.Operator sign.CloseParenthesis) ts us l agree s))) u h

pub parameters_last : {ts : List Terminal} {i l j : ℕ} {xs ys : List Param} {x : Param} (room : ℕ) → AreParameters ts i xs l → ys ≡ xs ++ x ∷ [] → IsReading Parameter EndsParameter ts l room x j → IsOperator ts j sign.CloseParenthesis
    → IsReading Parameters (IsBefore (kind.Operator sign.CloseParenthesis)) ts i room ys j
unfolding Parameters
parameters_last {ts = ts} {i = i} {j = j} room before e h closing =
    subst (λ zs. IsReading Parameters (IsBefore (kind.Operator sign.CloseParenthesis)) ts i room zs j) (sym e) (record { derived = elements_last (kind.Operator sign.Comma) (before.rest room) h.derived; stops = closing; within = h.within })

pub parameters_end : {ts : List Terminal} {i l : ℕ} {xs : List Param} (room : ℕ) → AreParameters ts i xs l → IsOperator ts l sign.CloseParenthesis → IsReading Parameters (IsBefore (kind.Operator sign.CloseParenthesis)) ts i room xs l
unfolding Parameters
parameters_end room before closing = record { derived = elements_ended (kind.Operator sign.Comma) (before.rest room); stops = closing; within = before.within }

-- What stands behind the name

abbrev Opening : Shape (Unit {0})
Opening = Token (kind.Operator sign.OpenParenthesis)

abbrev Closing : Shape (Unit {0})
Closing = Token (kind.Operator sign.CloseParenthesis)

abbrev Colon : Shape (Unit {0})
Colon = Token (kind.Operator sign.Colon)

behind_opening : (which : FunctionKind) {ts : List Terminal} {i l room : ℕ} → IsReading Opening Anywhere ts i room tt l → Step (RestParts which) Anywhere (Rest which) Anywhere ts i l room
unfolding Rest
behind_opening which opening = step_after _ (good_rest_parts which good_block) opening

behind_parameters : (which : FunctionKind) {ts : List Terminal} {i l m n room : ℕ} {params : List Param} → IsReading Opening Anywhere ts i room tt l → IsReading Parameters (IsBefore (kind.Operator sign.CloseParenthesis)) ts l room params m → IsReading Closing Anywhere ts m room tt n
    → Step (TailBody which) Anywhere (Rest which) Anywhere ts i n room
behind_parameters which opening params closing =
    step_twice (step_back good_parameters_closed (good_tail_body which good_block) only_parameters_closed (leads_anywhere (TailBody which) Anywhere) (read_before _ params closing)) (behind_opening which opening)

behind_tail : (which : FunctionKind) {ts : List Terminal} {i l m n o room : ℕ} {params : List Param} {said : ExceptionForm × Lock} → IsReading Opening Anywhere ts i room tt l → IsReading Parameters (IsBefore (kind.Operator sign.CloseParenthesis)) ts l room params m
    → IsReading Closing Anywhere ts m room tt n → IsReading (Tail which) (IsBefore (kind.Operator sign.Colon)) ts n room said o → Step FunctionBody Anywhere (Rest which) Anywhere ts i o room
behind_tail which opening params closing tail = step_twice (step_back (good_tail which) (good_body good_block) (only_tail which) leads_body tail) (behind_parameters which opening params closing)

pub rest_opening : (which : FunctionKind) (ts : List Terminal) (i room : ℕ) (u : Unread) → IsUnread Opening Anywhere ts i room u → IsUnread (Rest which) Anywhere ts i room u
unfolding Rest
rest_opening which ts i room u h = fails (step_word {S = Anywhere} _ (good_rest_parts which good_block)) u h

pub rest_parameters : (which : FunctionKind) (ts : List Terminal) (i l room : ℕ) (u : Unread) → IsReading Opening Anywhere ts i room tt l → IsUnread Parameters (IsBefore (kind.Operator sign.CloseParenthesis)) ts l room u → IsUnread (Rest which) Anywhere ts i room u
rest_parameters which ts i l room u opening h =
    fails (step_twice (step_before {S = Anywhere} (kind.Operator sign.CloseParenthesis) good_parameters (λ us k g. g)) (step_twice (step_front good_parameters_closed (good_tail_body which good_block) (leads_anywhere (TailBody which) Anywhere)) (behind_opening which opening))) u h

pub rest_closing : (which : FunctionKind) (ts : List Terminal) (i l m room : ℕ) (params : List Param) (u : Unread) → IsReading Opening Anywhere ts i room tt l → IsReading Parameters (IsBefore (kind.Operator sign.CloseParenthesis)) ts l room params m
    → IsUnread Closing Anywhere ts m room u → IsUnread (Rest which) Anywhere ts i room u
rest_closing which ts i l m room params u opening read h =
    fails (step_twice (step_end (kind.Operator sign.CloseParenthesis) good_parameters only_parameters (λ us k g. g) read)
    (step_twice (step_front good_parameters_closed (good_tail_body which good_block) (leads_anywhere (TailBody which) Anywhere)) (behind_opening which opening))) u h

pub rest_tail : (which : FunctionKind) (ts : List Terminal) (i l m n room : ℕ) (params : List Param) (u : Unread) → IsReading Opening Anywhere ts i room tt l → IsReading Parameters (IsBefore (kind.Operator sign.CloseParenthesis)) ts l room params m
    → IsReading Closing Anywhere ts m room tt n → IsUnread (Tail which) (IsBefore (kind.Operator sign.Colon)) ts n room u → IsUnread (Rest which) Anywhere ts i room u
rest_tail which ts i l m n room params u opening read closing h = fails (step_twice (step_front (good_tail which) (good_body good_block) leads_body) (behind_parameters which opening read closing)) u h

pub rest_colon : (which : FunctionKind) (ts : List Terminal) (i l m n o room : ℕ) (params : List Param) (said : ExceptionForm × Lock) (u : Unread) → IsReading Opening Anywhere ts i room tt l
    → IsReading Parameters (IsBefore (kind.Operator sign.CloseParenthesis)) ts l room params m → IsReading Closing Anywhere ts m room tt n → IsReading (Tail which) (IsBefore (kind.Operator sign.Colon)) ts n room said o → IsUnread Colon Anywhere ts o room u
    → IsUnread (Rest which) Anywhere ts i room u
rest_colon which ts i l m n o room params said u opening read closing tail h = fails (step_twice (step_word _ good_block) (behind_tail which opening read closing tail)) u h

pub rest_body : (which : FunctionKind) (ts : List Terminal) (i l m n o p room : ℕ) (params : List Param) (said : ExceptionForm × Lock) (u : Unread) → IsReading Opening Anywhere ts i room tt l
    → IsReading Parameters (IsBefore (kind.Operator sign.CloseParenthesis)) ts l room params m → IsReading Closing Anywhere ts m room tt n → IsReading (Tail which) (IsBefore (kind.Operator sign.Colon)) ts n room said o → IsReading Colon Anywhere ts o room tt p
    → IsUnread Block Anywhere ts p room u → IsUnread (Rest which) Anywhere ts i room u
rest_body which ts i l m n o p room params said u opening read closing tail colon h = fails (step_twice (step_after _ good_block colon) (behind_tail which opening read closing tail)) u h

pub rest_read : (which : FunctionKind) (ts : List Terminal) (i l m n o p q room : ℕ) (params : List Param) (said : ExceptionForm × Lock) (body : List Stmt) → IsReading Opening Anywhere ts i room tt l
    → IsReading Parameters (IsBefore (kind.Operator sign.CloseParenthesis)) ts l room params m → IsReading Closing Anywhere ts m room tt n → IsReading (Tail which) (IsBefore (kind.Operator sign.Colon)) ts n room said o → IsReading Colon Anywhere ts o room tt p
    → IsReading Block Anywhere ts p room body q → IsReading (Rest which) Anywhere ts i room (params, (said, body)) q
unfolding Rest
rest_read which ts i l m n o p q room params said body opening read closing tail colon block = read_after _ opening (read_both (read_before _ read closing) (read_both tail (read_after _ colon block)))

-- Functions

behind_function : {ts : List Terminal} {i room : ℕ} → Step FunctionParts Anywhere FunctionForm Anywhere ts i i room
unfolding FunctionForm
behind_function = step_twice (step_placed (good_function_parts good_block) (solid_function_parts good_block)) (step_made _ (good_placed (solid_function_parts good_block) (good_function_parts good_block)))

good_placed_rest : Good (Placed HeadRest)
good_placed_rest = good_placed (solid_head_rest good_block) (good_head_rest good_block)

leads_placed_rest : Leads (Placed HeadRest) Anywhere EndsDecorators
leads_placed_rest = leads_placed (leads_wider leads_head_rest head_ends_decorators)

pub behind_decorators : {ts : List Terminal} {i l room : ℕ} {xs : List Decorator} → IsReading (Many DecoratorLine) EndsDecorators ts i room xs l → Step HeadRest Anywhere FunctionForm Anywhere ts i l room
behind_decorators decorators =
    step_twice (step_placed (good_head_rest good_block) (solid_head_rest good_block)) (step_twice (step_back good_decorators good_placed_rest only_decorators leads_placed_rest decorators) behind_function)

pub function_decorators : (ts : List Terminal) (i room : ℕ) (u : Unread) → IsUnread (Many DecoratorLine) EndsDecorators ts i room u → IsUnread FunctionForm Anywhere ts i room u
function_decorators ts i room u h = fails (step_twice (step_front good_decorators good_placed_rest leads_placed_rest) behind_function) u h

pub step_head : {ts : List Terminal} {i room : ℕ} → Step HeadRead (IsBefore (kind.Operator sign.OpenParenthesis)) SomeHead (IsBefore (kind.Operator sign.OpenParenthesis)) ts i i room
unfolding HeadRead
step_head = step_inner _ good_some_head

pub function_head : (ts : List Terminal) (i l room : ℕ) (xs : List Decorator) (u : Unread) → IsReading (Many DecoratorLine) EndsDecorators ts i room xs l → IsUnread HeadRead (IsBefore (kind.Operator sign.OpenParenthesis)) ts l room u
    → IsUnread FunctionForm Anywhere ts i room u
function_head ts i l room xs u decorators h =
    fails (step_twice step_head (step_twice (step_first ts l room good_some_head.sound good_some_head.rises (λ (head : FunctionHead). (good_rest head.0 good_block).fresh) (λ (head : FunctionHead). leads_rest head.0)) (behind_decorators decorators))) u h

pub function_rest : (ts : List Terminal) (i l m room : ℕ) (xs : List Decorator) (head : FunctionKind × (Bool × (ResultType × ℕ))) (u : Unread) → IsReading (Many DecoratorLine) EndsDecorators ts i room xs l
    → IsReading HeadRead (IsBefore (kind.Operator sign.OpenParenthesis)) ts l room head m → IsUnread (Rest head.0) Anywhere ts m room u → IsUnread FunctionForm Anywhere ts i room u
function_rest ts i l m room xs head u decorators read h =
    let spelled = head_spelled read in
    let named = head_named read spelled.1 in
    let whole : FunctionHead = (head.0, (head.1.0, (head.1.1.0, (head.1.1.1, spelled.0)))) in
    fails (step_twice (step_second ts l m room whole good_some_head.sound good_some_head.rises only_some_head (λ (x : FunctionHead). leads_rest x.0) (good_rest head.0 good_block).rises named.derived named.stops) (behind_decorators decorators)) u h

pub read_then : {A B : Type 0} {X : Shape A} {Y : A → Shape B} {M R : Stops} {ts : List Terminal} {i l j room : ℕ} {a : A} {b : B} → IsReading X M ts i room a l → IsReading (Y a) R ts l room b j → IsReading (Then X Y) R ts i room (a, b) j
read_then {l = l} x y = record { derived = record { middle = l; first = x.derived; second = y.derived }; stops = y.stops; within = y.within }

pub function_read : (ts : List Terminal) (i l m j room : ℕ) (at header_at : Span) (xs : List Decorator) (head : FunctionKind × (Bool × (ResultType × ℕ))) (spelled : List ℕ) (rest : List Param × ((ExceptionForm × Lock) × List Stmt)) → IsAt ts i at → IsAt ts l header_at
    → IsReading (Many DecoratorLine) EndsDecorators ts i room xs l → IsReading HeadRead (IsBefore (kind.Operator sign.OpenParenthesis)) ts l room head m → IsName ts head.1.1.1 spelled → IsReading (Rest head.0) Anywhere ts m room rest j
    → IsReading FunctionForm Anywhere ts i room (function_of at xs header_at (head.0, (head.1.0, (head.1.1.0, (head.1.1.1, spelled)))) rest) j
unfolding FunctionForm
function_read ts i l m j room at header_at xs head spelled rest placed header decorators read named behind =
    read_of _ (read_placed placed (read_both decorators (read_placed header (read_then {Y = λ (x : FunctionHead). Rest x.0} (head_named read named) behind))))
