-- The code of each head of a statement, and the heads that have none. (This file is written by a script.)
use Rattle.std.proofs.Common.{◌≡◌, ℕ, List, [], refl}
use Rattle.px_base.specs.declared.c_types.BinOp.{BinOp}
use Rattle.px_tree.specs.declared.typed_values.ValueType.{ValueType}
use Rattle.px_tree.specs.declared.typed_heads.TypedHead.{TypedHead}
use Rattle.px_tree.specs.declared.typed_heads.TypedHead.TheVariants as head
use Rattle.px_walk.specs.Roses.{Roses}
use Rattle.px_stmtgen.specs.declared.layouts.Layout.{Layout}
use Rattle.px_stmtgen.specs.StatementCode.{StatementEmission, alone_first, assign_code, augment_code, declared_code, return_code, in_turn_code, statement_by}

pub expression_by : (l : Layout) (parts : Roses TypedHead) (codes : List StatementEmission) (pc : ℕ) → statement_by l head.Expression parts codes pc ≡ alone_first l parts pc
unfolding statement_by
expression_by l parts codes pc = refl

pub assign_by : (l : Layout) (parts : Roses TypedHead) (codes : List StatementEmission) (pc : ℕ) → statement_by l head.Assign parts codes pc ≡ assign_code l parts pc
unfolding statement_by
assign_by l parts codes pc = refl

pub augment_by : (l : Layout) (op : BinOp) (parts : Roses TypedHead) (codes : List StatementEmission) (pc : ℕ) → statement_by l (head.Augment op) parts codes pc ≡ augment_code l parts pc
unfolding statement_by
augment_by l op parts codes pc = refl

pub declare_by : (l : Layout) (parts : Roses TypedHead) (codes : List StatementEmission) (pc : ℕ) → statement_by l head.Declare parts codes pc ≡ in_turn_code codes pc
unfolding statement_by
declare_by l parts codes pc = refl

pub declarator_by : (l : Layout) (slot : ℕ) (t : ValueType) (parts : Roses TypedHead) (codes : List StatementEmission) (pc : ℕ) → statement_by l (head.Declarator slot t) parts codes pc ≡ declared_code l slot parts pc
unfolding statement_by
declarator_by l slot t parts codes pc = refl

pub return_by : (l : Layout) (parts : Roses TypedHead) (codes : List StatementEmission) (pc : ℕ) → statement_by l head.Return parts codes pc ≡ return_code l parts pc
unfolding statement_by
return_by l parts codes pc = refl

pub other_statement : (l : Layout) (parts : Roses TypedHead) (codes : List StatementEmission) (pc : ℕ) (h : TypedHead)
    → (h ≡ head.Expression → ⊥)
    → (h ≡ head.Assign → ⊥)
    → ((x0 : BinOp) → h ≡ head.Augment x0 → ⊥)
    → (h ≡ head.Declare → ⊥)
    → ((x0 : ℕ) (x1 : ValueType) → h ≡ head.Declarator x0 x1 → ⊥)
    → (h ≡ head.Return → ⊥)
    → statement_by l h parts codes pc ≡ []
unfolding statement_by
other_statement l parts codes pc (head.Literal x0 x1) no_Expression no_Assign no_Augment no_Declare no_Declarator no_Return = refl
other_statement l parts codes pc (head.Sizeof x0) no_Expression no_Assign no_Augment no_Declare no_Declarator no_Return = refl
other_statement l parts codes pc (head.Constant x0) no_Expression no_Assign no_Augment no_Declare no_Declarator no_Return = refl
other_statement l parts codes pc (head.Local x0 x1) no_Expression no_Assign no_Augment no_Declare no_Declarator no_Return = refl
other_statement l parts codes pc (head.ModuleName x0) no_Expression no_Assign no_Augment no_Declare no_Declarator no_Return = refl
other_statement l parts codes pc (head.Given x0) no_Expression no_Assign no_Augment no_Declare no_Declarator no_Return = refl
other_statement l parts codes pc (head.Kept x0) no_Expression no_Assign no_Augment no_Declare no_Declarator no_Return = refl
other_statement l parts codes pc (head.Converted x0) no_Expression no_Assign no_Augment no_Declare no_Declarator no_Return = refl
other_statement l parts codes pc (head.Cast x0) no_Expression no_Assign no_Augment no_Declare no_Declarator no_Return = refl
other_statement l parts codes pc (head.Steps x0) no_Expression no_Assign no_Augment no_Declare no_Declarator no_Return = refl
other_statement l parts codes pc (head.Unary x0 x1) no_Expression no_Assign no_Augment no_Declare no_Declarator no_Return = refl
other_statement l parts codes pc (head.Binary x0 x1 x2) no_Expression no_Assign no_Augment no_Declare no_Declarator no_Return = refl
other_statement l parts codes pc (head.Compare x0) no_Expression no_Assign no_Augment no_Declare no_Declarator no_Return = refl
other_statement l parts codes pc head.Comparisons no_Expression no_Assign no_Augment no_Declare no_Declarator no_Return = refl
other_statement l parts codes pc head.Not no_Expression no_Assign no_Augment no_Declare no_Declarator no_Return = refl
other_statement l parts codes pc (head.And x0) no_Expression no_Assign no_Augment no_Declare no_Declarator no_Return = refl
other_statement l parts codes pc (head.Or x0) no_Expression no_Assign no_Augment no_Declare no_Declarator no_Return = refl
other_statement l parts codes pc (head.Conditional x0) no_Expression no_Assign no_Augment no_Declare no_Declarator no_Return = refl
other_statement l parts codes pc (head.Call x0 x1) no_Expression no_Assign no_Augment no_Declare no_Declarator no_Return = refl
other_statement l parts codes pc (head.Abs x0) no_Expression no_Assign no_Augment no_Declare no_Declarator no_Return = refl
other_statement l parts codes pc (head.Min x0) no_Expression no_Assign no_Augment no_Declare no_Declarator no_Return = refl
other_statement l parts codes pc (head.Max x0) no_Expression no_Assign no_Augment no_Declare no_Declarator no_Return = refl
other_statement l parts codes pc head.ThreadId no_Expression no_Assign no_Augment no_Declare no_Declarator no_Return = refl
other_statement l parts codes pc (head.ObjectUnary x0) no_Expression no_Assign no_Augment no_Declare no_Declarator no_Return = refl
other_statement l parts codes pc (head.ObjectBinary x0) no_Expression no_Assign no_Augment no_Declare no_Declarator no_Return = refl
other_statement l parts codes pc head.Tuple no_Expression no_Assign no_Augment no_Declare no_Declarator no_Return = refl
other_statement l parts codes pc head.List no_Expression no_Assign no_Augment no_Declare no_Declarator no_Return = refl
other_statement l parts codes pc head.Dict no_Expression no_Assign no_Augment no_Declare no_Declarator no_Return = refl
other_statement l parts codes pc head.Item no_Expression no_Assign no_Augment no_Declare no_Declarator no_Return = refl
other_statement l parts codes pc (head.Part x0 x1 x2) no_Expression no_Assign no_Augment no_Declare no_Declarator no_Return = refl
other_statement l parts codes pc (head.Method x0) no_Expression no_Assign no_Augment no_Declare no_Declarator no_Return = refl
other_statement l parts codes pc (head.Builtin x0) no_Expression no_Assign no_Augment no_Declare no_Declarator no_Return = refl
other_statement l parts codes pc (head.Element x0 x1) no_Expression no_Assign no_Augment no_Declare no_Declarator no_Return = refl
other_statement l parts codes pc (head.ViewPart x0 x1) no_Expression no_Assign no_Augment no_Declare no_Declarator no_Return = refl
other_statement l parts codes pc head.Index no_Expression no_Assign no_Augment no_Declare no_Declarator no_Return = refl
other_statement l parts codes pc (head.Slice x0 x1 x2) no_Expression no_Assign no_Augment no_Declare no_Declarator no_Return = refl
other_statement l parts codes pc head.NewAxis no_Expression no_Assign no_Augment no_Declare no_Declarator no_Return = refl
other_statement l parts codes pc head.Ellipsis no_Expression no_Assign no_Augment no_Declare no_Declarator no_Return = refl
other_statement l parts codes pc (head.Transposed x0) no_Expression no_Assign no_Augment no_Declare no_Declarator no_Return = refl
other_statement l parts codes pc (head.Copied x0) no_Expression no_Assign no_Augment no_Declare no_Declarator no_Return = refl
other_statement l parts codes pc head.Length no_Expression no_Assign no_Augment no_Declare no_Declarator no_Return = refl
other_statement l parts codes pc (head.Extent x0) no_Expression no_Assign no_Augment no_Declare no_Declarator no_Return = refl
other_statement l parts codes pc head.Array no_Expression no_Assign no_Augment no_Declare no_Declarator no_Return = refl
other_statement l parts codes pc (head.Keyword x0) no_Expression no_Assign no_Augment no_Declare no_Declarator no_Return = refl
other_statement l parts codes pc head.Expression no_Expression no_Assign no_Augment no_Declare no_Declarator no_Return = absurd (no_Expression refl)
other_statement l parts codes pc head.Assign no_Expression no_Assign no_Augment no_Declare no_Declarator no_Return = absurd (no_Assign refl)
other_statement l parts codes pc head.AssignEach no_Expression no_Assign no_Augment no_Declare no_Declarator no_Return = refl
other_statement l parts codes pc head.Unpack no_Expression no_Assign no_Augment no_Declare no_Declarator no_Return = refl
other_statement l parts codes pc (head.Augment x0) no_Expression no_Assign no_Augment no_Declare no_Declarator no_Return = absurd (no_Augment x0 refl)
other_statement l parts codes pc head.Declare no_Expression no_Assign no_Augment no_Declare no_Declarator no_Return = absurd (no_Declare refl)
other_statement l parts codes pc (head.Declarator x0 x1) no_Expression no_Assign no_Augment no_Declare no_Declarator no_Return = absurd (no_Declarator x0 x1 refl)
other_statement l parts codes pc head.Pass no_Expression no_Assign no_Augment no_Declare no_Declarator no_Return = refl
other_statement l parts codes pc head.Break no_Expression no_Assign no_Augment no_Declare no_Declarator no_Return = refl
other_statement l parts codes pc head.Continue no_Expression no_Assign no_Augment no_Declare no_Declarator no_Return = refl
other_statement l parts codes pc head.Return no_Expression no_Assign no_Augment no_Declare no_Declarator no_Return = absurd (no_Return refl)
other_statement l parts codes pc (head.Raise x0) no_Expression no_Assign no_Augment no_Declare no_Declarator no_Return = refl
other_statement l parts codes pc head.Reraise no_Expression no_Assign no_Augment no_Declare no_Declarator no_Return = refl
other_statement l parts codes pc (head.Try x0 x1 x2) no_Expression no_Assign no_Augment no_Declare no_Declarator no_Return = refl
other_statement l parts codes pc head.Block no_Expression no_Assign no_Augment no_Declare no_Declarator no_Return = refl
other_statement l parts codes pc (head.Handler x0 x1) no_Expression no_Assign no_Augment no_Declare no_Declarator no_Return = refl
other_statement l parts codes pc (head.Catches x0) no_Expression no_Assign no_Augment no_Declare no_Declarator no_Return = refl
other_statement l parts codes pc head.CatchesAll no_Expression no_Assign no_Augment no_Declare no_Declarator no_Return = refl
other_statement l parts codes pc head.Global no_Expression no_Assign no_Augment no_Declare no_Declarator no_Return = refl
other_statement l parts codes pc (head.If x0 x1) no_Expression no_Assign no_Augment no_Declare no_Declarator no_Return = refl
other_statement l parts codes pc head.Arm no_Expression no_Assign no_Augment no_Declare no_Declarator no_Return = refl
other_statement l parts codes pc head.While no_Expression no_Assign no_Augment no_Declare no_Declarator no_Return = refl
other_statement l parts codes pc (head.Range x0) no_Expression no_Assign no_Augment no_Declare no_Declarator no_Return = refl
other_statement l parts codes pc head.Over no_Expression no_Assign no_Augment no_Declare no_Declarator no_Return = refl
other_statement l parts codes pc (head.Parallel x0 x1 x2) no_Expression no_Assign no_Augment no_Declare no_Declarator no_Return = refl
other_statement l parts codes pc head.ChunkSize no_Expression no_Assign no_Augment no_Declare no_Declarator no_Return = refl
other_statement l parts codes pc head.TeamSize no_Expression no_Assign no_Augment no_Declare no_Declarator no_Return = refl
other_statement l parts codes pc head.WithGil no_Expression no_Assign no_Augment no_Declare no_Declarator no_Return = refl
other_statement l parts codes pc head.WithNogil no_Expression no_Assign no_Augment no_Declare no_Declarator no_Return = refl
other_statement l parts codes pc (head.ParallelBlock x0) no_Expression no_Assign no_Augment no_Declare no_Declarator no_Return = refl
