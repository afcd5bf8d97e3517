-- The modules that `run` takes, and what they print: a function `main` of plain statements over `long` variables, and its
-- call. A module is of this form where it has a meaning here. Products and sums group from the left, and each result wraps to
-- a `long` (ISO C11 6.3.1.3, 6.5.5 and 6.5.6, with LP64).
use Rattle.std.specs.Prelude.{◌≡◌, ◌≢◌, ℕ, ℤ, pos, ◌+ℤ◌, ◌-ℤ◌, ◌*ℤ◌, List, [], ◌∷◌, ◌++◌, Option, Some, None, IsFalse, Contains, codes}
use Rattle.std.specs.Fmt.{signed_decimal}
use Rattle.px_base.specs.declared.c_types.CType.TheVariants.{Long}
use Rattle.px_base.specs.declared.c_types.BinOp.TheVariants.{Add, Sub, Mul}
use Rattle.px_ctypes.specs.Types.{IsInRange}
use Rattle.px_ctypes.specs.Wrapping.{wrap}
use Rattle.px_tree.specs.declared.expressions.Expr.{Expr}
use Rattle.px_tree.specs.declared.expressions.ExprForm.TheVariants as form
use Rattle.px_tree.specs.declared.expressions.Link.{Link}
use Rattle.px_tree.specs.declared.expressions.Argument.{Argument}
use Rattle.px_tree.specs.declared.expressions.Trailer.TheVariants as trailer
use Rattle.px_tree.specs.declared.typings.«Type».{«Type» as Typing}
use Rattle.px_tree.specs.declared.typings.BaseType.TheVariants as base
use Rattle.px_tree.specs.declared.statements.Stmt.{Stmt}
use Rattle.px_tree.specs.declared.statements.StmtForm.TheVariants as stmt_form
use Rattle.px_tree.specs.declared.statements.Declaration.{Declaration}
use Rattle.px_tree.specs.declared.statements.Declarator.{Declarator}
use Rattle.px_tree.specs.declared.modules.Function.{Function}
use Rattle.px_tree.specs.declared.modules.FunctionKind.TheVariants.{Def}
use Rattle.px_tree.specs.declared.modules.ResultType.TheVariants as result_type
use Rattle.px_tree.specs.declared.modules.ExceptionForm.TheVariants as exception
use Rattle.px_tree.specs.declared.modules.Lock.TheVariants as lock
use Rattle.px_tree.specs.declared.modules.ModuleItem.TheVariants as module_item
use Rattle.px_tree.specs.declared.modules.Module.{Module}
use Rattle.px_cli.specs.LineEnds.{with_line_end}

-- Variables

-- the value of each variable that is declared so far
abbrev pub Values : Type 0
Values = List ℕ → Option ℤ

abbrev pub no_values : Values
no_values name = None

-- the same values, but that this variable has this one
pub record Assigns (before : Values) (name : List ℕ) (value : ℤ) (after : Values) : Type 0 where
  pub there : after name ≡ Some value
  pub others : (other : List ℕ) → other ≢ name → after other ≡ before other

-- the names that no variable may have: that of the function, and those of Cython's builtins
abbrev pub reserved_names : List (List ℕ)
reserved_names =
    codes "main" ∷ codes "print" ∷ codes "input" ∷ codes "len" ∷ codes "int" ∷ codes "str" ∷ codes "repr" ∷
    codes "bool" ∷ codes "list" ∷ codes "tuple" ∷ codes "abs" ∷ codes "min" ∷ codes "max" ∷ codes "range" ∷ []

-- Expressions

-- a variable, or a number that a `long` holds
pub data AtomIs (values : Values) (e : Expr) (value : ℤ) : Type 0 where
  variable : (name : List ℕ) → e.form ≡ form.Name name → values name ≡ Some value → AtomIs values e value
  number : e.form ≡ form.Number value → IsInRange Long value → AtomIs values e value

-- further factors, behind a product so far
pub data FactorsGive (values : Values) : ℤ → List Link → ℤ → Type 0 where
  none : {product : ℤ} → FactorsGive values product [] product
  times : {product value whole : ℤ} {link : Link} {links : List Link} → link.op ≡ Mul
      → AtomIs values link.operand value → FactorsGive values (wrap Long (product *ℤ value)) links whole
      → FactorsGive values product (link ∷ links) whole

-- atom ('*' atom)*
pub data ProductIs (values : Values) (e : Expr) (value : ℤ) : Type 0 where
  atom : AtomIs values e value → ProductIs values e value
  chain : (first : Expr) (link : Link) (links : List Link) (begun : ℤ) → e.form ≡ form.Chain first (link ∷ links)
      → AtomIs values first begun → FactorsGive values begun (link ∷ links) value → ProductIs values e value

-- further products, behind a sum so far
pub data TermsGive (values : Values) : ℤ → List Link → ℤ → Type 0 where
  none : {sum : ℤ} → TermsGive values sum [] sum
  plus : {sum value whole : ℤ} {link : Link} {links : List Link} → link.op ≡ Add → ProductIs values link.operand value
      → TermsGive values (wrap Long (sum +ℤ value)) links whole → TermsGive values sum (link ∷ links) whole
  minus : {sum value whole : ℤ} {link : Link} {links : List Link} → link.op ≡ Sub
      → ProductIs values link.operand value → TermsGive values (wrap Long (sum -ℤ value)) links whole
      → TermsGive values sum (link ∷ links) whole

-- product (('+' | '-') product)*
pub data SumIs (values : Values) (e : Expr) (value : ℤ) : Type 0 where
  product : ProductIs values e value → SumIs values e value
  chain : (first : Expr) (link : Link) (links : List Link) (begun : ℤ) → e.form ≡ form.Chain first (link ∷ links)
      → ProductIs values first begun → TermsGive values begun (link ∷ links) value → SumIs values e value

-- Statements

-- `long`
pub record IsLong (typing : Typing) : Type 0 where
  pub plain : IsFalse typing.is_const
  pub long : typing.base ≡ base.C Long
  pub no_view : typing.axes ≡ []

-- a `cdef` line of one `long` variable that isn't declared yet
pub record DeclaresOne (values : Values) (s : Stmt) (declarator : Declarator) : Type 0 where
  pub declaration : Declaration
  pub stands : s.form ≡ stmt_form.Declare declaration
  pub typing : IsLong declaration.typing
  pub names : declaration.names ≡ declarator ∷ []
  pub free : Contains reserved_names declarator.name → ⊥
  pub fresh : values declarator.name ≡ None

-- name(arguments)
pub record IsCall (name : List ℕ) (call : Expr) (arguments : List Argument) : Type 0 where
  pub called : Expr
  pub row : call.form ≡ form.Row called (trailer.Call arguments ∷ [])
  pub named : called.form ≡ form.Name name

-- the same, as a statement
pub record Calls (name : List ℕ) (s : Stmt) (arguments : List Argument) : Type 0 where
  pub call : Expr
  pub stands : s.form ≡ stmt_form.Assign [] call
  pub is : IsCall name call arguments

-- what a statement does: the values after it, and what it prints
pub data Does (values : Values) (s : Stmt) (after : Values) (printed : List ℕ) : Type 0 where
  -- cdef long name
  declares : (declarator : Declarator) → DeclaresOne values s declarator → declarator.value ≡ None
      → Assigns values declarator.name (pos 0) after → printed ≡ [] → Does values s after printed
  -- cdef long name = sum
  begins : (declarator : Declarator) (e : Expr) (value : ℤ) → DeclaresOne values s declarator
      → declarator.value ≡ Some e → SumIs values e value → Assigns values declarator.name value after → printed ≡ []
      → Does values s after printed
  -- name = sum
  assigns : (target e : Expr) (name : List ℕ) (old value : ℤ) → s.form ≡ stmt_form.Assign (target ∷ []) e
      → target.form ≡ form.Name name → values name ≡ Some old → SumIs values e value → Assigns values name value after
      → printed ≡ [] → Does values s after printed
  -- print(sum): a decimal number and a line end
  prints : (argument : Argument) (value : ℤ) → Calls (codes "print") s (argument ∷ []) → argument.name ≡ None
      → SumIs values argument.value value → after ≡ values → printed ≡ with_line_end (signed_decimal value)
      → Does values s after printed

-- what statements do one after another
pub data DoInTurn : Values → List Stmt → Values → List ℕ → Type 0 where
  none : {values : Values} → DoInTurn values [] values []
  more : {values between after : Values} {s : Stmt} {others : List Stmt} {printed rest whole : List ℕ}
      → Does values s between printed → DoInTurn between others after rest → whole ≡ printed ++ rest
      → DoInTurn values (s ∷ others) after whole

-- Modules

-- `def main():` with nothing else in its head
pub record IsMain (function : Function) : Type 0 where
  pub undecorated : function.decorators ≡ []
  pub plain : function.kind ≡ Def
  pub outside : IsFalse function.is_inline
  pub untyped : function.gives ≡ result_type.Unwritten
  pub named : function.name ≡ codes "main"
  pub alone : function.params ≡ []
  pub silent : function.exception ≡ exception.Unwritten
  pub lockless : function.lock ≡ lock.Unwritten

-- `main()`
abbrev pub CallsMain : Stmt → Type 0
CallsMain s = Calls (codes "main") s []

-- the module prints this
pub record Prints (m : Module) (output : List ℕ) : Type 0 where
  pub main : Function
  pub call : Stmt
  pub after : Values
  pub items : m.items ≡ module_item.Function main ∷ module_item.Statement call ∷ []
  pub header : IsMain main
  pub does : DoInTurn no_values main.body after output
  pub called : CallsMain call
