-- What begins with `cdef` in a module: a function, or a declaration. Behind the name they part.
use Rattle.std.proofs.Common.{◌≡◌, ℕ, suc, ◌≤◌, ◌<◌, ◌⊎◌, inl, inr, Bool, List, Option, refl, sym, ◌∙◌, subst, arith}
use Rattle.px_lexer.specs.declared.spelling.Keyword.TheVariants as word
use Rattle.px_lexer.specs.declared.spelling.Operator.TheVariants as sign
use Rattle.px_lexer.specs.declared.token_list.TokenKind.{TokenKind}
use Rattle.px_lexer.specs.declared.token_list.TokenKind.TheVariants as kind
use Rattle.px_tree.specs.declared.typings.«Type».{«Type» as Typing}
use Rattle.px_tree.specs.declared.expressions.Expr.{Expr}
use Rattle.px_tree.specs.declared.statements.Stmt.{Stmt}
use Rattle.px_tree.specs.declared.statements.Declarator.{Declarator}
use Rattle.px_tree.specs.declared.modules.Decorator.{Decorator}
use Rattle.px_tree.specs.declared.modules.Param.{Param}
use Rattle.px_tree.specs.declared.modules.Lock.{Lock}
use Rattle.px_tree.specs.declared.modules.ExceptionForm.{ExceptionForm}
use Rattle.px_tree.specs.declared.modules.Function.{Function}
use Rattle.px_tree.specs.declared.modules.FunctionKind.{FunctionKind}
use Rattle.px_tree.specs.declared.modules.FunctionKind.TheVariants as function_kind
use Rattle.px_tree.specs.declared.modules.ResultType.{ResultType}
use Rattle.px_tree.specs.declared.modules.ResultType.TheVariants as result_type
use Rattle.px_lexer.specs.Terminals.{Terminal, HasKind, IsKeyword, IsOperator}
use Rattle.px_exprs.specs.Readings.{Agree}
use Rattle.px_lexer.proofs.OneToken.{one_kind}
use Rattle.px_exprs.proofs.Agreement.{agree_carried, agree_back}
use Rattle.px_exprs.proofs.Keeping.{kind_carried}
use Rattle.px_parser.specs.Shapes.{Mode, Seq, Either, Many}
use Rattle.px_parser.specs.Readings.{Anywhere}
use Rattle.px_parser.specs.StatementGrammar.{DeclareLine, DeclareGroup, Declare}
use Rattle.px_parser.specs.ModuleGrammar.{DecoratorLine, Numbered, Result, CWord, DefHead, CHead, Rest, FunctionForm}
use Rattle.px_parser.specs.Parts.{ResultName, DeclRest}
use Rattle.px_parser.proofs.Onlies.{Sees, sees_less}
use Rattle.px_parser.proofs.TypedNames.{only_result_name, good_result, good_numbered, leads_result}
use Rattle.px_parser.proofs.VariableShapes.{declared_opened, placed_after, behind_here, leads_decl_rest, leads_more_to_end, solid_decl_rest, declare_line_begins, declare_group_begins}
use Rattle.px_parser.proofs.Shapely.{good_seq}
use Rattle.px_parser.proofs.BlockShapes.{good_block}
use Rattle.px_parser.proofs.FunctionShapes.{leads_decorator_line, opening_ends_name, good_rest, leads_rest}

-- the kind of the function, what it gives, and the index of its name are read; `(` stands behind
pub record PlainFunction (mode : Mode) (ts : List Terminal) (i n j : ℕ) : Type 0 where
  pub gives : ResultType × ℕ
  pub end : ℕ
  pub named : ResultName mode ts (suc i) gives n end
  pub tree : List Param × ((ExceptionForm × Lock) × List Stmt)
  pub rest : Rest function_kind.Cdef mode ts end tree n j

pub data CFunction (mode : Mode) (ts : List Terminal) (i n j : ℕ) : Type 0 where
  inlined : IsKeyword ts (suc i) word.Inline → suc i < j → CFunction mode ts i n j
  plain : PlainFunction mode ts i n j → CFunction mode ts i n j

-- a type and the index of the first name are read
pub record PlainDeclaration (mode : Mode) (ts : List Terminal) (i n j : ℕ) : Type 0 where
  pub typing : Typing
  pub number : ℕ
  pub end : ℕ
  pub named : ResultName mode ts (suc i) (result_type.Of typing, number) n end
  pub tree : Option Expr × (List Declarator × ℕ)
  pub rest : DeclRest mode ts end tree n j

pub data CDeclaration (mode : Mode) (ts : List Terminal) (i n j : ℕ) : Type 0 where
  group : IsOperator ts (suc i) sign.Colon → CDeclaration mode ts i n j
  plain : PlainDeclaration mode ts i n j → CDeclaration mode ts i n j

pub not_both : {ts : List Terminal} {i : ℕ} {k l : TokenKind} → (k ≡ l → ⊥) → HasKind ts i k → HasKind ts i l → ⊥
not_both apart h g = apart (one_kind h g)

no_decorators : {mode : Mode} {ts : List Terminal} {i n j : ℕ} {xs : List Decorator} → IsKeyword ts i word.Cdef → Many DecoratorLine mode ts i xs n j → i ≡ j
no_decorators cdef Many.none = refl
no_decorators cdef (Many.more first rest) = absurd (not_both (λ e. cc) cdef ((leads_decorator_line {R = Anywhere}).leads first tt))

c_head : {mode : Mode} {ts : List Terminal} {i n j : ℕ} (k : ℕ) (head : FunctionKind × (Bool × (ResultType × (ℕ × List ℕ)))) (tree : List Param × ((ExceptionForm × Lock) × List Stmt)) → IsKeyword ts i word.Cdef → CHead mode ts i head n k
    → Rest head.0 mode ts k tree n j → CFunction mode ts i n j
unfolding CHead CWord ResultName
c_head {mode} {ts} {i} {n} {j} k head tree cdef h rest = elim (h.first) [
  | Either.left c ↦ (
      let behind : h.middle ≡ suc i = c.read.end in
      let inline = h.second in
      elim (inline.first) [
        | Either.left w ↦ (
            let over : k ≤ j = (good_rest head.0 good_block).sound.forward rest in
            let name : inline.middle ≤ k = (good_seq good_result good_numbered).sound.forward inline.second in
            CFunction.inlined (subst (λ m. HasKind ts m (kind.Keyword word.Inline)) behind w.read.stands) (omega (arith, w.read.end, behind, name, over))
            )
        | Either.right absent ↦ CFunction.plain (record {
          gives = (head.1.1.0, head.1.1.1.0);
          end = k;
          named = record { inner = head.1.1; read = subst (λ m. Seq Result Numbered mode ts m head.1.1 n k) (absent.end ∙ behind) inline.second; tree = refl };
          tree = tree;
          rest = subst (λ w. Rest w mode ts k tree n j) c.tree rest;
        })
      ]
      )
  | Either.right c ↦ absurd (not_both (λ e. cc) cdef c.read.stands)
]

pub c_function : {mode : Mode} {ts : List Terminal} {i n j : ℕ} (f : Function) → IsKeyword ts i word.Cdef → FunctionForm mode ts i f n j → CFunction mode ts i n j
unfolding FunctionForm DefHead
c_function {mode} {ts} {i} {n} {j} f cdef h =
    let parts = h.read.second in
    let first : h.read.middle ≡ i = h.read.first.end in
    let none : i ≡ parts.middle = no_decorators cdef (subst (λ m. Many DecoratorLine mode ts m h.inner.1.0 n parts.middle) first parts.first) in
    let placed = parts.second in
    let headed = placed.second in
    let here : placed.middle ≡ i = placed.first.end ∙ sym none in
    elim (headed.first) [
      | Either.left def ↦ absurd (not_both (λ e. cc) cdef (subst (λ m. HasKind ts m (kind.Keyword word.Def)) here def.read.first.stands))
      | Either.right head ↦ c_head headed.middle h.inner.1.1.1.0 h.inner.1.1.1.1 cdef (subst (λ m. CHead mode ts m h.inner.1.1.1.0 n headed.middle) here head) headed.second
    ]

pub c_declaration : {mode : Mode} {ts : List Terminal} {i n j : ℕ} (s : Stmt) → Declare mode ts i s n j → CDeclaration mode ts i n j
unfolding Declare DeclareLine DeclareGroup ResultName Result Numbered
c_declaration {mode} {ts} {i} {n} {j} s h = elim (h) [
  | Either.left line ↦ (
      let found = placed_after (behind_here line.read) in
      let parts = declared_opened found.1.1 in
      CDeclaration.plain (record {
        typing = found.1.0.0;
        number = parts.middle;
        end = suc parts.middle;
        named = record {
          inner = (result_type.Of found.1.0.0, (parts.middle, parts.name));
          read = record {
            middle = parts.middle;
            first = Either.left (Either.right (record { inner = found.1.0.0; read = parts.typing; tree = refl }));
            second = record { middle = parts.middle; first = record { counted = refl; end = refl }; second = record { stands = parts.named; end = refl } };
          };
          tree = refl;
        };
        tree = (parts.value, (parts.others, found.1.0.1.1));
        rest = parts.rest;
      })
      )
  | Either.right lines ↦ (
      let found = placed_after lines.read in
      let colon = found.1.1.first.read in
      CDeclaration.group (subst (λ m. IsOperator ts m sign.Colon) colon.first.end colon.second.stands)
      )
]

-- They can't be both

-- `(` stands behind a name
opening : (mode : Mode) (ts : List Terminal) (i n j : ℕ) (tree : List Param × ((ExceptionForm × Lock) × List Stmt)) → Rest function_kind.Cdef mode ts i tree n j → IsOperator ts i sign.OpenParenthesis
opening mode ts i n j tree rest = (leads_rest function_kind.Cdef {R = Anywhere}).leads rest tt

-- what stands behind the name of a variable is no `(`
pub no_opening : (mode : Mode) (ts : List Terminal) (i n j : ℕ) (tree : Option Expr × (List Declarator × ℕ)) → DeclRest mode ts i tree n j → IsOperator ts i sign.OpenParenthesis → ⊥
unfolding DeclRest
no_opening mode ts i n j tree rest bracket = elim (rest.first) [
  | Either.left value ↦ not_both (λ e. cc) bracket value.read.read.first.stands
  | Either.right absent ↦ (
      let here : IsOperator ts rest.middle sign.OpenParenthesis = subst (λ m. IsOperator ts m sign.OpenParenthesis) (sym absent.end) bracket in
      elim ((leads_more_to_end {R = Anywhere}).leads rest.second tt) [
        | inl comma ↦ not_both (λ e. cc) here comma
        | inr line ↦ not_both (λ e. cc) here line
      ]
      )
]

-- a name is read in one way, so that the same stands behind it
function_first : {mode other : Mode} {ts us : List Terminal} {i n m j l : ℕ} → PlainFunction mode ts i n j → PlainDeclaration other us i m l → Agree (suc j) us ts → Sees mode j → Sees other j → ⊥
function_first {mode} {other} {ts} {us} {i} {n} {m} {j} {l} f d agree sees sight =
    let le : f.end ≤ j = (good_rest function_kind.Cdef good_block).sound.forward f.rest in
    let bracket = opening mode ts f.end n j f.tree f.rest in
    let same = only_result_name.one f.named (opening_ends_name ts f.end bracket) d.named ((leads_decl_rest {R = Anywhere}).leads d.rest tt) (agree_carried us ts agree (omega (arith, le))) (sees_less mode sees le) (sees_less other sight le) in
    no_opening other us d.end m l d.tree d.rest (subst (λ k. IsOperator us k sign.OpenParenthesis) same.1 (kind_carried (suc f.end) (agree_carried us ts agree (omega (arith, le))) bracket (omega arith)))

declaration_first : {mode other : Mode} {ts us : List Terminal} {i n m j l : ℕ} → PlainDeclaration mode ts i n j → PlainFunction other us i m l → Agree (suc j) us ts → Sees mode j → Sees other j → ⊥
declaration_first {mode} {other} {ts} {us} {i} {n} {m} {j} {l} d f agree sees sight =
    let le : d.end < j = solid_decl_rest.grows d.rest in
    let bracket = opening other us f.end m l f.tree f.rest in
    let same = only_result_name.one d.named ((leads_decl_rest {R = Anywhere}).leads d.rest tt) f.named (opening_ends_name us f.end bracket) (agree_carried us ts agree (omega (arith, le))) (sees_less mode sees (omega (arith, le))) (sees_less other sight (omega (arith, le))) in
    let there : IsOperator us d.end sign.OpenParenthesis = subst (λ k. IsOperator us k sign.OpenParenthesis) (sym same.1) bracket in
    no_opening mode ts d.end n j d.tree d.rest (kind_carried (suc d.end) (agree_back us ts (agree_carried us ts agree (omega (arith, le)))) there (omega arith))

named_begins : (mode : Mode) (ts : List Terminal) (i n j : ℕ) (t : ResultType × ℕ) → ResultName mode ts i t n j → HasKind ts i kind.Name
unfolding ResultName
named_begins mode ts i n j t h = let name = leads_result.leads h.read tt in record { token = name.1.token; stands = name.1.stands; kind = name.1.kind }

-- what stands behind `cdef` in a function
pub c_function_next : {mode : Mode} {ts : List Terminal} {i n j : ℕ} → CFunction mode ts i n j → IsKeyword ts (suc i) word.Inline ⊎ HasKind ts (suc i) kind.Name
c_function_next (CFunction.inlined w long) = inl w
c_function_next {mode} {ts} {i} {n} (CFunction.plain f) = inr (named_begins mode ts (suc i) n f.end f.gives f.named)

-- and in a declaration
pub c_declaration_next : {mode : Mode} {ts : List Terminal} {i n j : ℕ} → CDeclaration mode ts i n j → IsOperator ts (suc i) sign.Colon ⊎ HasKind ts (suc i) kind.Name
c_declaration_next (CDeclaration.group w) = inl w
c_declaration_next {mode} {ts} {i} {n} (CDeclaration.plain d) = inr (named_begins mode ts (suc i) n d.end (result_type.Of d.typing, d.number) d.named)

named_long : (mode : Mode) (ts : List Terminal) (i n j : ℕ) (t : ResultType × ℕ) → ResultName mode ts i t n j → i < j
unfolding ResultName Numbered
named_long mode ts i n j t h = omega (arith, good_result.sound.forward h.read.first, h.read.second.first.end, h.read.second.second.end)

pub c_function_long : {mode : Mode} {ts : List Terminal} {i n j : ℕ} → CFunction mode ts i n j → suc i < j
c_function_long (CFunction.inlined w long) = long
c_function_long {mode} {ts} {i} {n} (CFunction.plain f) = omega (arith, (good_rest function_kind.Cdef good_block).sound.forward f.rest, named_long mode ts (suc i) n f.end f.gives f.named)

nothing_common : {ts us : List Terminal} {i n : ℕ} → IsKeyword ts i word.Inline ⊎ HasKind ts i kind.Name → IsOperator us i sign.Colon → Agree n us ts → i < n → ⊥
nothing_common {n = n} (inl w) colon agree lt = not_both (λ e. cc) (kind_carried n agree w lt) colon
nothing_common {n = n} (inr name) colon agree lt = not_both (λ e. cc) (kind_carried n agree name lt) colon

inline_alone : {ts us : List Terminal} {i n : ℕ} → IsKeyword ts i word.Inline → IsOperator us i sign.Colon ⊎ HasKind us i kind.Name → Agree n us ts → i < n → ⊥
inline_alone {n = n} w (inl colon) agree lt = not_both (λ e. cc) (kind_carried n agree w lt) colon
inline_alone {n = n} w (inr name) agree lt = not_both (λ e. cc) (kind_carried n agree w lt) name

-- no tokens are both, as far as the token behind one of them
pub c_function_first : {mode other : Mode} {ts us : List Terminal} {i n m j l : ℕ} → CFunction mode ts i n j → CDeclaration other us i m l → Agree (suc j) us ts → Sees mode j → Sees other j → ⊥
c_function_first f (CDeclaration.group colon) agree sees sight = nothing_common (c_function_next f) colon agree (omega (arith, c_function_long f))
c_function_first (CFunction.inlined w long) (CDeclaration.plain d) agree sees sight = inline_alone w (c_declaration_next (CDeclaration.plain d)) agree (omega (arith, long))
c_function_first (CFunction.plain f) (CDeclaration.plain d) agree sees sight = function_first f d agree sees sight

pub c_declaration_first : {mode other : Mode} {ts us : List Terminal} {i n m j l : ℕ} → CDeclaration mode ts i n j → CFunction other us i m l → suc i < j → Agree (suc j) us ts → Sees mode j → Sees other j → ⊥
c_declaration_first {ts = ts} {us} (CDeclaration.group colon) f long agree sees sight = nothing_common (c_function_next f) colon (agree_back us ts agree) (omega (arith, long))
c_declaration_first {ts = ts} {us} (CDeclaration.plain d) (CFunction.inlined w more) long agree sees sight = inline_alone w (c_declaration_next (CDeclaration.plain d)) (agree_back us ts agree) (omega (arith, long))
c_declaration_first (CDeclaration.plain d) (CFunction.plain f) long agree sees sight = declaration_first d f agree sees sight

pub declare_long : (mode : Mode) (ts : List Terminal) (i n j : ℕ) (s : Stmt) → Declare mode ts i s n j → suc i < j
unfolding Declare
declare_long mode ts i n j s h = elim (h) [
  | Either.left a ↦ (declare_line_begins mode ts i n j s a).2
  | Either.right b ↦ (declare_group_begins mode ts i n j s b).2
]
