-- What a node of the parse tree is without its parts.
use Rattle.std.specs.Prelude.{ℕ, ℤ, Bool, List, Option}
use Rattle.px_base.specs.declared.refusals.Span.{Span}
use Rattle.px_base.specs.declared.c_types.BinOp.{BinOp}
use Rattle.px_base.specs.declared.c_types.UnOp.{UnOp}
use Rattle.px_tree.specs.declared.typings.BaseType.{BaseType}
use Rattle.px_tree.specs.declared.typings.Axis.{Axis}
use Rattle.px_tree.specs.declared.expressions.CompareOp.{CompareOp}
use Rattle.px_tree.specs.declared.modules.FunctionKind.{FunctionKind}
use Rattle.px_tree.specs.declared.modules.Lock.{Lock}
use Rattle.px_walk.specs.declared.heads.ResultKind.{ResultKind}
use Rattle.px_walk.specs.declared.heads.ExceptionKind.{ExceptionKind}

-- a function: its decorators and its parameters by their numbers
pub record FunctionForm : Type 0 where
  pub header_at : Span
  pub kind : FunctionKind
  pub is_inline : Bool
  pub gives : ResultKind
  pub name : List ℕ
  pub exception : ExceptionKind
  pub lock : Lock
  pub decorators : ℕ
  pub params : ℕ

-- names are lists of characters, and the counts say where a group of parts ends
pub data Form : Type 0 where
  Module : (comments : ℕ) → Form
  Comment : (text : List ℕ) → Form
  Import : (is_cimport : Bool) (names : List (List ℕ)) (alias : Option (List ℕ)) → Form
  ImportFrom : (is_cimport : Bool) (names : List (List ℕ)) → Form
  ImportedName : (name : List ℕ) (alias : Option (List ℕ)) → Form
  Function : FunctionForm → Form
  Decorator : (names : List (List ℕ)) (name_at : Span) (value : Bool) → Form
  Param : (name : List ℕ) (is_not_none : Bool) → Form
  «Type» : (is_const : Bool) (base : BaseType) (axes : List Axis) → Form
  Assign : (targets : ℕ) → Form
  Augment : BinOp → Form
  Pass : Form
  Break : Form
  Continue : Form
  Return : Form
  Raise : (name : List ℕ) → Form
  Global : (names : List (List ℕ)) → Form
  If : (arms : ℕ) (has_else : Bool) → Form
  While : Form
  For : Form
  WithGil : Form
  WithNogil : Form
  Declare : Form
  DeclareGroup : Form
  Arm : Form
  Declaration : Form
  Declarator : (name : List ℕ) → Form
  Name : (name : List ℕ) → Form
  Number : ℤ → Form
  Text : (contents : List (List ℕ)) → Form
  True : Form
  False : Form
  None : Form
  Sizeof : Form
  Tuple : Form
  ListDisplay : Form
  Dict : Form
  Row : Form
  Unary : UnOp → Form
  Cast : Form
  Chain : Form
  Compare : Form
  Not : Form
  And : Form
  Or : Form
  Conditional : Form
  Entry : Form
  Attribute : (name : List ℕ) → Form
  Call : Form
  Subscript : (has_comma : Bool) → Form
  Argument : (name : Option (List ℕ)) → Form
  Index : Form
  Slice : (has_from has_to has_step : Bool) → Form
  Ellipsis : Form
  Link : BinOp → Form
  Comparison : CompareOp → Form
