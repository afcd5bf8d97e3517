-- Each register that an instruction reads is asked for a kind, in the order in which it is read.
use Rattle.std.proofs.Common.{◌≡◌, ℕ, List, [], ◌∷◌, ◌++◌, Option, Some, None, refl, sym, ap, ap₂, ◌∙◌}
use Rattle.std.proofs.lemmas.List.{map-append}
use Rattle.px_regcode.specs.declared.operands.Register.{Register}
use Rattle.px_regcode.specs.declared.operands.RegKind.{RegKind}
use Rattle.px_regcode.specs.declared.instructions.Instr.{Instr}
use Rattle.px_regcode.specs.declared.instructions.Instr.TheVariants as instr
use Rattle.px_regcode.specs.Effects.{reads, if_there}
use Rattle.px_regcode.specs.Facts.{numbers_of}
use Rattle.px_regcode.specs.Shapes.{Need, number, reference, each, if_given, needs, registers_in}

of_each : (need : Need) (rs : List Register) → registers_in (each need rs) ≡ numbers_of rs
of_each need [] = refl
of_each need (r ∷ rs) = ap (λ ns. r.number ∷ ns) (of_each need rs)

of_given : (need : Need) (o : Option Register) → registers_in (if_given need o) ≡ numbers_of (if_there o)
of_given need None = refl
of_given need (Some r) = refl

joined : (xs ys : List (ℕ × Need)) (rs qs : List Register) → registers_in xs ≡ numbers_of rs → registers_in ys ≡ numbers_of qs
    → registers_in (xs ++ ys) ≡ numbers_of (rs ++ qs)
joined xs ys rs qs x_is y_is =
    map-append (λ p. p.0) xs ys ∙ ap₂ (λ ns ms. ns ++ ms) x_is y_is ∙ sym (map-append (λ r. r.number) rs qs)

of_three : (b c e : Option Register) → registers_in (if_given number b ++ if_given number c ++ if_given number e)
    ≡ numbers_of (if_there b ++ if_there c ++ if_there e)
of_three b c e =
    joined (if_given number b ++ if_given number c) (if_given number e) (if_there b ++ if_there c) (if_there e)
    (joined (if_given number b) (if_given number c) (if_there b) (if_there c) (of_given number b) (of_given number c)) (of_given number e)

pub asked_all : (result : RegKind) (i : Instr) → registers_in (needs result i) ≡ numbers_of (reads i)
unfolding needs reads
asked_all result (instr.Const d n) = refl
asked_all result (instr.Move d a) = refl
asked_all result (instr.Binary op t d a b truncates) = refl
asked_all result (instr.Unary op t d a) = refl
asked_all result (instr.Compare op t d a b) = refl
asked_all result (instr.Convert t d a) = refl
asked_all result (instr.Magnitude t d a) = refl
asked_all result (instr.Jump k) = refl
asked_all result (instr.Branch a k j) = refl
asked_all result instr.Turn = refl
asked_all result (instr.Call f d arguments) = of_each _ arguments
asked_all result (instr.Return a) = refl
asked_all result instr.Finish = refl
asked_all result (instr.Handle k) = refl
asked_all result instr.Unhandle = refl
asked_all result instr.Throw = refl
asked_all result (instr.Caught d) = refl
asked_all result (instr.Takes a kinds k) = refl
asked_all result (instr.Forget a) = refl
asked_all result (instr.Unset d) = refl
asked_all result (instr.Need a) = refl
asked_all result (instr.Element t d a indices) = ap (λ ns. a.number ∷ ns) (of_each number indices)
asked_all result (instr.Put t a indices b) = ap (λ ns. a.number ∷ ns)
    (joined (each number indices) ((b.number, number) ∷ []) indices (b ∷ []) (of_each number indices) refl)
asked_all result (instr.Pick d a axis i wraps) = refl
asked_all result (instr.Slice d a axis b c e) = ap (λ ns. a.number ∷ ns) (of_three b c e)
asked_all result (instr.Axis d a n) = refl
asked_all result (instr.Turned d a) = refl
asked_all result (instr.Extent d a axis) = refl
asked_all result (instr.Ordered a order) = refl
asked_all result (instr.Acquire a) = refl
asked_all result (instr.Release a) = refl
asked_all result (instr.Fill a b) = refl
asked_all result (instr.Spread d a) = refl
asked_all result instr.Ticket = refl
asked_all result instr.Enter = refl
asked_all result instr.Leave = refl
asked_all result (instr.Loop n d k) = refl
asked_all result instr.Look = refl
asked_all result instr.Claim = refl
asked_all result instr.Begin = refl
asked_all result instr.End = refl
asked_all result (instr.Stop kind a) = of_given _ a
asked_all result (instr.Reduce op t x a) = refl
asked_all result (instr.Members d) = refl
asked_all result (instr.Text d n) = refl
asked_all result (instr.Wide d n) = refl
asked_all result (instr.Box t d a) = refl
asked_all result (instr.Unbox t d a) = refl
asked_all result (instr.Truth d a) = refl
asked_all result (instr.Fetch d n) = refl
asked_all result (instr.Keep n a) = refl
asked_all result (instr.Share d a) = refl
asked_all result (instr.Drop a) = refl
asked_all result (instr.ObjectBinary op d a b) = refl
asked_all result (instr.ObjectUnary op d a) = refl
asked_all result (instr.ObjectCompare op d a b) = refl
asked_all result (instr.ObjectIn d a b) = refl
asked_all result (instr.ObjectGet d a b) = refl
asked_all result (instr.ObjectSet a b c) = refl
asked_all result (instr.ObjectCut d a b c e) = ap (λ ns. a.number ∷ ns) (of_three b c e)
asked_all result (instr.List d arguments) = of_each _ arguments
asked_all result (instr.Tuple d arguments) = of_each _ arguments
asked_all result (instr.Dict d arguments) = of_each _ arguments
asked_all result (instr.Unpack n a items) = refl
asked_all result (instr.Method m d a arguments) = ap (λ ns. a.number ∷ ns) (of_each reference arguments)
asked_all result (instr.Builtin m d arguments) = of_each _ arguments
asked_all result (instr.Print arguments) = of_each _ arguments
asked_all result (instr.Input d arguments) = of_each _ arguments
asked_all result (instr.Raise kind a) = of_given _ a
asked_all result (instr.Walk d x a) = refl
asked_all result (instr.Next d a x k) = refl
asked_all result (instr.Array d arguments) = of_each _ arguments
asked_all result (instr.View t d a rank) = refl
asked_all result (instr.Copy d a) = refl
asked_all result (instr.Said d a) = refl
asked_all result (instr.Rethrow a) = refl
