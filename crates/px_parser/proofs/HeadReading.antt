-- What the reading of the head of a function shows.
use Rattle.std.proofs.Common.{◌≡◌, inl, inr, ℕ, suc, ◌<◌, Bool, true, false, List, length, sym, ap, ap₂, subst, ◌∙◌, arith}
use Rattle.px_lexer.specs.declared.spelling.Keyword.TheVariants as word
use Rattle.px_lexer.specs.declared.spelling.Operator.TheVariants as sign
use Rattle.px_lexer.specs.declared.token_list.TokenKind.TheVariants as kind
use Rattle.px_lexer.specs.declared.token_list.Tokens.{Tokens}
use Rattle.px_tree.specs.declared.modules.FunctionKind.{FunctionKind}
use Rattle.px_tree.specs.declared.modules.FunctionKind.TheVariants as function_kind
use Rattle.px_tree.specs.declared.modules.ResultType.{ResultType}
use Rattle.px_tree.specs.declared.modules.ResultType.TheVariants as result_type
use Rattle.px_exprs.specs.declared.readings.Unread.{Unread}
use Rattle.px_lexer.specs.Terminals.{terminals_of, Terminal, IsName, IsKeyword, IsOperator}
use Rattle.px_exprs.specs.Readings.{Stops}
use Rattle.px_lexer.proofs.OneToken.{one_name}
use Rattle.px_parser.specs.Shapes.{Mode, Shape, Token, Word, Gives, Seq, Either, Of}
use Rattle.px_parser.specs.Readings.{IsReading, IsUnread, IsStuck, Anywhere}
use Rattle.px_parser.specs.Listings.{IsListing}
use Rattle.px_parser.specs.Parsing.{strict}
use Rattle.px_exprs.specs.Runs.{nesting_limit}
use Rattle.px_parser.specs.Ends.{EndsName, IsBefore}
use Rattle.px_parser.specs.Parts.{ResultName, HeadRead, CHeadRead}
use Rattle.px_parser.specs.ModuleGrammar.{Numbered, CWord, DefHead, CHead}
use Rattle.px_parser.proofs.Shapely.{Good, good_token, good_name, good_here, good_gives, good_of, good_seq, good_either}
use Rattle.px_parser.proofs.Onlies.{Clash, clash_back, leads_seq, leads_gives, leads_wider, leads_anywhere, only_of, only_token}
use Rattle.px_parser.proofs.Steps.{Step, Never, Alike, fails, step_left, step_right, step_twice, step_alike, never_by, stuck_here}
use Rattle.px_parser.proofs.TokenShapes.{name_stuck}
use Rattle.px_parser.proofs.TypedNames.{numbered_parts, numbered_by}
use Rattle.px_parser.proofs.KindLaws.{IsNot, kind_missing, other_kind, kinds_apart}
use Rattle.px_parser.proofs.ReadingSteps.{read_of, read_left, read_right, read_after, read_absent, read_ends, inside_terminals, kind_goes_on, kind_read, step_back, step_made, step_after, step_number, step_ends, step_anywhere, ended_stuck, local_kind, stuck_of}
use Rattle.px_parser.proofs.FunctionReading.{step_inner}
use Rattle.px_parser.proofs.FunctionShapes.{FunctionHead, good_c_word, only_c_word, BeginsC, InlineWord, good_inline, only_inline, NamedResult, good_named_result, leads_named_result, InlineResult, good_inline_result, good_c_head, leads_c_head, good_def_head, leads_def_head, only_def_head, SomeHead, good_some_head, def_or_c, opening_ends_name, good_c_head_read, leads_c_head_read, only_c_head_read}

-- `cdef` or `cpdef`

pub cdef_read : (tokens : Tokens) (i j room : ℕ) → IsListing tokens → IsKeyword (terminals_of tokens) i word.Cdef → j ≡ suc i → IsReading CWord Anywhere (terminals_of tokens) i room function_kind.Cdef j
unfolding CWord
cdef_read tokens i j room listing here e = read_left _ (read_of _ (kind_read tokens i j room listing here (λ f. cc) e))

pub cpdef_read : (tokens : Tokens) (i j room : ℕ) → IsListing tokens → IsKeyword (terminals_of tokens) i word.Cpdef → j ≡ suc i → IsReading CWord Anywhere (terminals_of tokens) i room function_kind.Cpdef j
unfolding CWord
cpdef_read tokens i j room listing here e = read_right _ (read_of _ (kind_read tokens i j room listing here (λ f. cc) e))

abbrev NoC : Stops
NoC ts i = IsNot (kind.Keyword word.Cdef) ts i × IsNot (kind.Keyword word.Cpdef) ts i

no_c : Clash BeginsC NoC
no_c ts us i agree (inl h) none = kind_missing _ ts us i agree h none.0
no_c ts us i agree (inr h) none = kind_missing _ ts us i agree h none.1

pub c_head_stuck : (tokens : Tokens) (i room : ℕ) → i < length tokens.list → (IsKeyword (terminals_of tokens) i word.Cdef → ⊥) → (IsKeyword (terminals_of tokens) i word.Cpdef → ⊥) → IsStuck CHeadRead EndsName (terminals_of tokens) i room i
c_head_stuck tokens i room inside no_cdef no_cpdef =
    stuck_here (terminals_of tokens) i room good_c_head_read.fresh (inside_terminals tokens i inside) (never_by {T = BeginsC} {R = NoC} (terminals_of tokens) i (leads_c_head_read {R = EndsName}) no_c (no_cdef, no_cpdef))

-- `inline`, or nothing

pub data IsInline (ts : List Terminal) (l : ℕ) (told : Bool) (m : ℕ) : Type 0 where
  inline : told ≡ true → IsKeyword ts l word.Inline → m ≡ suc l → IsInline ts l told m
  plain : told ≡ false → (IsKeyword ts l word.Inline → ⊥) → m ≡ l → IsInline ts l told m

-- the first of two forms with the same rest
seq_either : {A B : Type 0} {X Z : Shape A} {Y : Shape B} → Alike (Either (Seq X Y) (Seq Z Y)) (Seq (Either X Z) Y)
seq_either = record {
  there = λ {t = t} h. elim (h) [
    | Either.left g ↦ (t, record { middle = g.middle; first = Either.left g.first; second = g.second })
    | Either.right g ↦ (t, record { middle = g.middle; first = Either.right g.first; second = g.second })
  ];
  back = λ {u = u} h. elim (h.first) [
    | Either.left g ↦ (u, Either.left (record { middle = h.middle; first = g; second = h.second }))
    | Either.right g ↦ (u, Either.right (record { middle = h.middle; first = g; second = h.second }))
  ];
}

abbrev Inlined : Shape Bool
Inlined = Of (λ _. true) (Word word.Inline)

good_inlined : Good Inlined
good_inlined = good_of _ (good_token _)

pub step_result : {ts : List Terminal} {i room : ℕ} → Step ResultName EndsName NamedResult EndsName ts i i room
unfolding ResultName
step_result = step_inner _ good_named_result

pub behind_word : {ts : List Terminal} {i l room : ℕ} {which : FunctionKind} → IsReading CWord Anywhere ts i room which l → Step InlineResult EndsName CHeadRead EndsName ts i l room
unfolding CHeadRead CHead
behind_word which = step_twice (step_back good_c_word good_inline_result (only_c_word Anywhere) (leads_anywhere InlineResult EndsName) which) (step_made _ good_c_head)

behind_inline : (tokens : Tokens) (l m room : ℕ) → IsListing tokens → IsKeyword (terminals_of tokens) l word.Inline → m ≡ suc l → Step NamedResult EndsName InlineResult EndsName (terminals_of tokens) l m room
behind_inline tokens l m room listing here e =
    let ts = terminals_of tokens in
    let token = read_of (λ _. true) (kind_read tokens l m room listing here (λ f. cc) e) in
    let other : Never (Seq (Gives false) NamedResult) EndsName ts l =
    never_by {T = IsBefore kind.Name} {R = IsBefore (kind.Keyword word.Inline)} ts l (leads_seq (leads_gives false (λ us k h. h)) (leads_named_result {R = EndsName})) (kinds_apart (λ f. cc)) here in
    step_twice (step_back good_inlined good_named_result (only_of (λ _. true) (only_token _ Anywhere)) (leads_anywhere NamedResult EndsName) token)
    (step_twice (step_left ts l room (good_seq good_inlined good_named_result).rises other) (step_alike EndsName ts l room (good_either (good_seq good_inlined good_named_result) (good_seq (good_gives false) good_named_result)).rises seq_either))

pub c_head_unread : (tokens : Tokens) (i l m room : ℕ) (which : FunctionKind) (told : Bool) (u : Unread) → IsListing tokens → IsReading CWord Anywhere (terminals_of tokens) i room which l → IsInline (terminals_of tokens) l told m
    → IsUnread ResultName EndsName (terminals_of tokens) m room u → IsUnread CHeadRead EndsName (terminals_of tokens) i room u
c_head_unread tokens i l m room which told u listing reading (IsInline.inline t here e) h = fails (step_twice step_result (step_twice (behind_inline tokens l m room listing here e) (behind_word reading))) u h
c_head_unread tokens i l m room which told u listing reading (IsInline.plain t absent e) h =
    let ts = terminals_of tokens in
    let there : IsUnread ResultName EndsName ts l room u = subst (λ k. IsUnread ResultName EndsName ts k room u) e h in
    fails (step_twice step_result (step_twice (step_back good_inline good_named_result only_inline (leads_wider leads_named_result (λ us k g. other_kind (λ f. cc) us k g)) (read_absent Inlined false absent reading.within)) (behind_word reading))) u there

inline_read : (tokens : Tokens) (l m room : ℕ) (told : Bool) → IsListing tokens → l < length (terminals_of tokens) → IsInline (terminals_of tokens) l told m → IsReading InlineWord Anywhere (terminals_of tokens) l room told m
inline_read tokens l m room told listing inside (IsInline.inline t here e) =
    subst (λ x. IsReading InlineWord Anywhere (terminals_of tokens) l room x m) (sym t) (read_left _ (read_of _ (kind_read tokens l m room listing here (λ f. cc) e)))
inline_read tokens l m room told listing inside (IsInline.plain t absent e) =
    subst (λ x. IsReading InlineWord Anywhere (terminals_of tokens) l room x m) (sym t) (subst (λ k. IsReading InlineWord Anywhere (terminals_of tokens) l room false k) (sym e) (read_absent Inlined false tt inside))

pub c_head_read : (tokens : Tokens) (i l m j room : ℕ) (which : FunctionKind) (told : Bool) (p : ResultType × ℕ) → IsListing tokens → IsReading CWord Anywhere (terminals_of tokens) i room which l → IsInline (terminals_of tokens) l told m
    → IsReading ResultName EndsName (terminals_of tokens) m room p j → IsReading CHeadRead EndsName (terminals_of tokens) i room (which, (told, p)) j
unfolding CHeadRead CHead ResultName
c_head_read tokens i l m j room which told p listing reading inlined result = record {
  derived = record {
    inner = (which, (told, result.derived.inner));
    read = record { middle = l; first = reading.derived; second = record { middle = m; first = (inline_read tokens l m room told listing reading.within inlined).derived; second = result.derived.read } };
    tree = ap (λ q. (which, (told, q))) result.derived.tree;
  };
  stops = result.stops;
  within = result.within;
}

-- Heads

-- what was read of a head, before it is known whether parameters stand behind it
pub data IsHead (ts : List Terminal) (i : ℕ) (tree : FunctionKind × (Bool × (ResultType × ℕ))) (j : ℕ) : Type 0 where
  def : (n : ℕ) (name : List ℕ) → IsKeyword ts i word.Def → IsName ts n name → n ≡ suc i → tree ≡ (function_kind.Def, (false, (result_type.Unwritten, n))) → j ≡ suc n → j < length ts → IsHead ts i tree j
  c : (IsKeyword ts i word.Def → ⊥) → ((room : ℕ) → IsReading CHeadRead EndsName ts i room tree j) → IsHead ts i tree j

def_read : (ts : List Terminal) (i n j room : ℕ) (name : List ℕ) → IsKeyword ts i word.Def → IsName ts n name → n ≡ suc i → j ≡ suc n → j < length ts → IsReading DefHead Anywhere ts i room (function_kind.Def, (false, (result_type.Unwritten, (n, name)))) j
unfolding DefHead
def_read ts i n j room name here named e f inside =
    let numbered = subst (λ k. Numbered (strict nesting_limit) ts n (n, name) room k) (sym f) (numbered_by (strict nesting_limit) ts n room name named) in
    let reading : IsReading Numbered Anywhere ts n room (n, name) j = record { derived = numbered; stops = tt; within = inside } in
    let token : IsReading (Token (kind.Keyword word.Def)) Anywhere ts i room tt n = record { derived = record { stands = here; end = e }; stops = tt; within = omega (arith, f, inside) } in
    read_after _ token (read_of _ reading)

step_def : {ts : List Terminal} {i room : ℕ} → IsKeyword ts i word.Def → Step DefHead (IsBefore (kind.Operator sign.OpenParenthesis)) HeadRead (IsBefore (kind.Operator sign.OpenParenthesis)) ts i i room
unfolding HeadRead
step_def {ts} {i} {room} here =
    let other : Never CHead (IsBefore (kind.Operator sign.OpenParenthesis)) ts i =
    never_by {T = BeginsC} {R = IsBefore (kind.Keyword word.Def)} ts i (leads_c_head {R = IsBefore (kind.Operator sign.OpenParenthesis)}) (clash_back {T = IsBefore (kind.Keyword word.Def)} {R = BeginsC} def_or_c) here in
    step_twice (step_left ts i room good_def_head.rises other) (step_made _ good_some_head)

pub step_c : {ts : List Terminal} {i room : ℕ} → (IsKeyword ts i word.Def → ⊥) → Step CHeadRead (IsBefore (kind.Operator sign.OpenParenthesis)) HeadRead (IsBefore (kind.Operator sign.OpenParenthesis)) ts i i room
unfolding HeadRead CHeadRead
step_c {ts} {i} {room} none =
    let other : Never DefHead (IsBefore (kind.Operator sign.OpenParenthesis)) ts i =
    never_by {T = IsBefore (kind.Keyword word.Def)} {R = IsNot (kind.Keyword word.Def)} ts i (leads_def_head {R = IsBefore (kind.Operator sign.OpenParenthesis)}) (kind_missing _) none in
    step_twice (step_inner _ good_c_head) (step_twice (step_right ts i room good_c_head.rises other) (step_made _ good_some_head))

pub def_stuck : (tokens : Tokens) (i n room : ℕ) → IsListing tokens → IsKeyword (terminals_of tokens) i word.Def → n ≡ suc i → ((name : List ℕ) → IsName (terminals_of tokens) n name → ⊥)
    → IsStuck HeadRead (IsBefore (kind.Operator sign.OpenParenthesis)) (terminals_of tokens) i room n
unfolding DefHead Numbered
def_stuck tokens i n room listing here e nameless =
    let ts = terminals_of tokens in
    stuck_of (step_twice (step_anywhere good_name) (step_twice (step_number good_name) (step_twice (step_made _ (good_seq good_here good_name)) (step_twice (step_after _ (good_of _ (good_seq good_here good_name)) (kind_read tokens i n room listing here (λ f. cc) e)) (step_def here)))))
    (name_stuck ts n room (inside_terminals tokens n (kind_goes_on tokens i n listing here (λ f. cc) e)) nameless)

pub c_refused : (ts : List Terminal) (i room : ℕ) (u : Unread) → (IsKeyword ts i word.Def → ⊥) → IsUnread CHeadRead EndsName ts i room u → IsUnread HeadRead (IsBefore (kind.Operator sign.OpenParenthesis)) ts i room u
c_refused ts i room u none h = fails (step_twice (step_ends good_c_head_read opening_ends_name) (step_c none)) u h

pub head_read : (ts : List Terminal) (i j room : ℕ) (tree : FunctionKind × (Bool × (ResultType × ℕ))) → IsHead ts i tree j → IsOperator ts j sign.OpenParenthesis → IsReading HeadRead (IsBefore (kind.Operator sign.OpenParenthesis)) ts i room tree j
unfolding HeadRead CHeadRead
head_read ts i j room tree (IsHead.def n name here named e t f inside) opening =
    subst (λ x. IsReading HeadRead (IsBefore (kind.Operator sign.OpenParenthesis)) ts i room x j) (sym t) (read_of _ (read_left CHead (read_ends (def_read ts i n j room name here named e f inside) opening)))
head_read ts i j room tree (IsHead.c none h) opening =
    let reading = h room in
    record { derived = record { inner = reading.derived.inner; read = Either.right reading.derived.read; tree = reading.derived.tree }; stops = opening; within = reading.within }

pub head_stuck : (ts : List Terminal) (i j room : ℕ) (tree : FunctionKind × (Bool × (ResultType × ℕ))) → IsHead ts i tree j → (IsOperator ts j sign.OpenParenthesis → ⊥) → IsStuck HeadRead (IsBefore (kind.Operator sign.OpenParenthesis)) ts i room j
head_stuck ts i j room tree (IsHead.def n name here named e t f inside) missing =
    stuck_of (step_def here) (ended_stuck good_def_head (only_def_head Anywhere) (λ us k g. tt) (local_kind (kind.Operator sign.OpenParenthesis)) (def_read ts i n j room name here named e f inside) missing)
head_stuck ts i j room tree (IsHead.c none h) missing = stuck_of (step_c none) (ended_stuck good_c_head_read only_c_head_read opening_ends_name (local_kind (kind.Operator sign.OpenParenthesis)) (h room) missing)

-- The name in a head

some_head_spelled : (mode : Mode) (ts : List Terminal) (i n j : ℕ) (p : FunctionHead) → SomeHead mode ts i p n j → IsName ts p.1.1.1.0 p.1.1.1.1
unfolding DefHead CHead
some_head_spelled mode ts i n j p (Either.left g) =
    let q = g.read.second.inner in
    let parts = numbered_parts mode ts g.read.middle n j q g.read.second.read in
    let here : IsName ts q.0 q.1 = subst (λ k. IsName ts k q.1) (sym parts.0) parts.1 in
    subst (λ (x : FunctionHead). IsName ts x.1.1.1.0 x.1.1.1.1) (sym (g.tree ∙ g.read.second.tree)) here
some_head_spelled mode ts i n j p (Either.right g) =
    let parts = numbered_parts mode ts g.second.second.middle n j p.1.1.1 g.second.second.second in
    subst (λ k. IsName ts k p.1.1.1.1) (sym parts.0) parts.1

pub head_spelled : {S : Stops} {ts : List Terminal} {i j room : ℕ} {p : FunctionKind × (Bool × (ResultType × ℕ))} → IsReading HeadRead S ts i room p j → (spelled : List ℕ) × IsName ts p.1.1.1 spelled
unfolding HeadRead
head_spelled {ts = ts} {i = i} {j = j} {room = room} h =
    let q = h.derived.inner in
    (q.1.1.1.1, subst (λ (x : FunctionKind × (Bool × (ResultType × ℕ))). IsName ts x.1.1.1 q.1.1.1.1) (sym h.derived.tree) (some_head_spelled _ ts i room j q h.derived.read))

pub head_named : {S : Stops} {ts : List Terminal} {i j room : ℕ} {p : FunctionKind × (Bool × (ResultType × ℕ))} {spelled : List ℕ} → IsReading HeadRead S ts i room p j → IsName ts p.1.1.1 spelled
    → IsReading SomeHead S ts i room (p.0, (p.1.0, (p.1.1.0, (p.1.1.1, spelled)))) j
unfolding HeadRead
head_named {S = S} {ts = ts} {i = i} {j = j} {room = room} {p = p} {spelled = spelled} h named =
    let q = h.derived.inner in
    let there = some_head_spelled _ ts i room j q h.derived.read in
    let number : p.1.1.1 ≡ q.1.1.1.0 = ap (λ (x : FunctionKind × (Bool × (ResultType × ℕ))). x.1.1.1) h.derived.tree in
    let same : spelled ≡ q.1.1.1.1 = one_name (subst (λ k. IsName ts k spelled) number named) there in
    let tree : (p.0, (p.1.0, (p.1.1.0, (p.1.1.1, spelled)))) ≡ q = ap₂ (λ (x : FunctionKind × (Bool × (ResultType × ℕ))) (y : List ℕ). (x.0, (x.1.0, (x.1.1.0, (x.1.1.1, y))))) h.derived.tree same in
    let reading : IsReading SomeHead S ts i room q j = record { derived = h.derived.read; stops = h.stops; within = h.within } in
    subst (λ x. IsReading SomeHead S ts i room x j) (sym tree) reading
