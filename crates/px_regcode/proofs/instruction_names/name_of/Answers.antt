-- Where no other name fits, the instruction is an object instruction.
use Rattle.std.proofs.Common.{◌≡◌, ◌||◌, ◌∙◌, [], if◌then◌else◌, refl}
use Rattle.px_regcode.specs.declared.instructions.Instr.{Instr}
use Rattle.px_regcode.specs.declared.instructions.Instr.TheVariants as instr
use Rattle.px_regcode.specs.InstructionGroups.{is_value, is_builtin}
use Rattle.px_regcode.specs.Listing.{name_of}
use Rattle.px_regcode.proofs.instruction_names.name_of.Goals as goal
use Rattle.px_regcode.proofs.instruction_names.name_of.Goals.{After-object_name}

there : (i : Instr) → (known : After-object_name) → known.args.instr.now ≡ i
    → (if is_value i || is_builtin i then name_of i else []) ≡ name_of i
unfolding name_of
there (instr.Const d n) known same = absurd (known.in_default.not-Const _ _ same)
there (instr.Move d a) known same = absurd (known.in_default.not-Move _ _ same)
there (instr.Binary op t d a b truncates) known same = absurd (known.in_default.not-Binary _ _ _ _ _ _ same)
there (instr.Unary op t d a) known same = absurd (known.in_default.not-Unary _ _ _ _ same)
there (instr.Compare op t d a b) known same = absurd (known.in_default.not-Compare _ _ _ _ _ same)
there (instr.Convert t d a) known same = absurd (known.in_default.not-Convert _ _ _ same)
there (instr.Magnitude t d a) known same = absurd (known.in_default.not-Magnitude _ _ _ same)
there (instr.Jump k) known same = absurd (known.in_default.not-Jump _ same)
there (instr.Branch a k j) known same = absurd (known.in_default.not-Branch _ _ _ same)
there instr.Turn known same = absurd (known.in_default.not-Turn same)
there (instr.Call f d arguments) known same = absurd (known.in_default.not-Call _ _ _ same)
there (instr.Return a) known same = absurd (known.in_default.not-Return _ same)
there instr.Finish known same = absurd (known.in_default.not-Finish same)
there (instr.Handle k) known same = absurd (known.in_default.not-Handle _ same)
there instr.Unhandle known same = absurd (known.in_default.not-Unhandle same)
there instr.Throw known same = absurd (known.in_default.not-Throw same)
there (instr.Caught a) known same = absurd (known.in_default.not-Caught _ same)
there (instr.Takes a kinds k) known same = absurd (known.in_default.not-Takes _ _ _ same)
there (instr.Forget a) known same = absurd (known.in_default.not-Forget _ same)
there (instr.Unset a) known same = absurd (known.in_default.not-Unset _ same)
there (instr.Need a) known same = absurd (known.in_default.not-Need _ same)
there (instr.Element t d a indices) known same = absurd (known.in_default.not-Element _ _ _ _ same)
there (instr.Put t a indices b) known same = absurd (known.in_default.not-Put _ _ _ _ same)
there (instr.Pick d a axis i wraps) known same = absurd (known.in_default.not-Pick _ _ _ _ _ same)
there (instr.Slice d a axis b c e) known same = absurd (known.in_default.not-Slice _ _ _ _ _ _ same)
there (instr.Axis d a n) known same = absurd (known.in_default.not-Axis _ _ _ same)
there (instr.Turned d a) known same = absurd (known.in_default.not-Turned _ _ same)
there (instr.Extent d a n) known same = absurd (known.in_default.not-Extent _ _ _ same)
there (instr.Ordered a order) known same = absurd (known.in_default.not-Ordered _ _ same)
there (instr.Acquire a) known same = absurd (known.in_default.not-Acquire _ same)
there (instr.Release a) known same = absurd (known.in_default.not-Release _ same)
there (instr.Fill d a) known same = absurd (known.in_default.not-Fill _ _ same)
there (instr.Spread d a) known same = absurd (known.in_default.not-Spread _ _ same)
there instr.Ticket known same = absurd (known.in_default.not-Ticket same)
there instr.Enter known same = absurd (known.in_default.not-Enter same)
there instr.Leave known same = absurd (known.in_default.not-Leave same)
there (instr.Loop n d k) known same = absurd (known.in_default.not-Loop _ _ _ same)
there instr.Look known same = absurd (known.in_default.not-Look same)
there instr.Claim known same = absurd (known.in_default.not-Claim same)
there instr.Begin known same = absurd (known.in_default.not-Begin same)
there instr.End known same = absurd (known.in_default.not-End same)
there (instr.Stop kind a) known same = absurd (known.in_default.not-Stop _ _ same)
there (instr.Reduce op t x a) known same = absurd (known.in_default.not-Reduce _ _ _ _ same)
there (instr.Members a) known same = absurd (known.in_default.not-Members _ same)
there (instr.Text d n) known same = refl
there (instr.Wide d n) known same = refl
there (instr.Box t d a) known same = refl
there (instr.Unbox t d a) known same = refl
there (instr.Truth d a) known same = refl
there (instr.Fetch d n) known same = refl
there (instr.Keep n a) known same = refl
there (instr.Share d a) known same = refl
there (instr.Drop a) known same = refl
there (instr.ObjectBinary op d a b) known same = refl
there (instr.ObjectUnary op d a) known same = refl
there (instr.ObjectCompare op d a b) known same = refl
there (instr.ObjectIn d a b) known same = refl
there (instr.ObjectGet d a b) known same = refl
there (instr.ObjectSet d a b) known same = refl
there (instr.ObjectCut d a b c e) known same = refl
there (instr.List d arguments) known same = refl
there (instr.Tuple d arguments) known same = refl
there (instr.Dict d arguments) known same = refl
there (instr.Unpack n a items) known same = refl
there (instr.Method m d a arguments) known same = refl
there (instr.Builtin m d arguments) known same = refl
there (instr.Print arguments) known same = refl
there (instr.Input d arguments) known same = refl
there (instr.Raise kind a) known same = refl
there (instr.Walk d a b) known same = refl
there (instr.Next d a x k) known same = refl
there (instr.Array d arguments) known same = refl
there (instr.View t d a rank) known same = refl
there (instr.Copy d a) known same = refl
there (instr.Said d a) known same = refl
there (instr.Rethrow a) known same = refl

pub returns-in_default : goal.returns-in_default
returns-in_default c = c.object_name.ensures ∙ there c.args.instr.now c refl
