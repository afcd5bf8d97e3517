-- Kinds of tokens that can't stand in one place, and forms that have a token.
use Rattle.std.proofs.Common.{◌≡◌, ℕ, suc, List, arith}
use Rattle.px_lexer.specs.declared.token_list.TokenKind.{TokenKind}
use Rattle.px_lexer.specs.declared.token_list.TokenKind.TheVariants as kind
use Rattle.px_lexer.specs.Terminals.{Terminal, HasKind, IsName}
use Rattle.px_exprs.specs.Readings.{Stops}
use Rattle.px_lexer.proofs.OneToken.{one_kind}
use Rattle.px_exprs.proofs.Keeping.{kind_carried}
use Rattle.px_lexer.proofs.TokenAccess.{name_kind}
use Rattle.px_parser.specs.Shapes.{Shape, Token, Name, Placed, Seq, Either, Of, After, Separated}
use Rattle.px_parser.specs.Readings.{Anywhere}
use Rattle.px_parser.specs.Ends.{IsBefore}
use Rattle.px_parser.proofs.Shapely.{Sound, Solid, sound_many, sound_after}
use Rattle.px_parser.proofs.Onlies.{Leads, Clash, Only, leads_seq, leads_after, leads_many, leads_anywhere, only_of, only_seq, only_many, only_after}

-- Kinds

-- no token of this kind
abbrev pub IsNot : TokenKind → Stops
IsNot k ts i = HasKind ts i k → ⊥

pub kind_missing : (k : TokenKind) → Clash (IsBefore k) (IsNot k)
kind_missing k ts us i agree h none = none (kind_carried (suc i) agree h (omega arith))

pub other_kind : {k l : TokenKind} → (k ≡ l → ⊥) → (ts : List Terminal) (i : ℕ) → HasKind ts i k → HasKind ts i l → ⊥
other_kind apart ts i h g = apart (one_kind h g)

pub kinds_apart : {k l : TokenKind} → (k ≡ l → ⊥) → Clash (IsBefore k) (IsBefore l)
kinds_apart apart ts us i agree h g = apart (one_kind (kind_carried (suc i) agree h (omega arith)) g)

pub name_is_other : {k : TokenKind} → (kind.Name ≡ k → ⊥) → (ts : List Terminal) (i : ℕ) {name : List ℕ} → IsName ts i name → HasKind ts i k → ⊥
name_is_other apart ts i h g = apart (one_kind (name_kind h) g)

-- Forms with a token

pub solid_token : (k : TokenKind) → Solid (Token k)
solid_token k = record { grows = λ h. omega (arith, h.end) }

pub solid_name : Solid Name
solid_name = record { grows = λ h. omega (arith, h.end) }

pub solid_front : {A B : Type 0} {X : Shape A} {Y : Shape B} → Solid X → Sound Y → Solid (Seq X Y)
solid_front x y = record { grows = λ h. omega (arith, x.grows h.first, y.forward h.second) }

pub solid_back : {A B : Type 0} {X : Shape A} {Y : Shape B} → Sound X → Solid Y → Solid (Seq X Y)
solid_back x y = record { grows = λ h. omega (arith, x.forward h.first, y.grows h.second) }

pub solid_placed : {A : Type 0} {X : Shape A} → Solid X → Solid (Placed X)
solid_placed x = record { grows = λ h. omega (arith, h.first.end, x.grows h.second) }

pub solid_of : {A B : Type 0} {X : Shape A} (f : A → B) → Solid X → Solid (Of f X)
solid_of f x = record { grows = λ h. x.grows h.read }

pub solid_either : {A : Type 0} {X Y : Shape A} → Solid X → Solid Y → Solid (Either X Y)
solid_either x y = record {
  grows = λ h. elim (h) [
    | Either.left g ↦ x.grows g
    | Either.right g ↦ y.grows g
  ];
}

pub solid_after : {A : Type 0} {X : Shape A} (k : TokenKind) → Sound X → Solid (After k X)
solid_after k x = solid_of _ (solid_front (solid_token k) x)

pub solid_separated : {A : Type 0} {X : Shape A} (k : TokenKind) → Sound X → Solid X → Solid (Separated k X)
solid_separated k sound x = solid_of _ (solid_front x (sound_many (sound_after k sound)))

-- The beginnings of several forms

pub leads_first : {A B : Type 0} {X : Shape A} {Y : Shape B} {R T : Stops} → Leads X Anywhere T → Leads (Seq X Y) R T
leads_first {Y = Y} {R = R} x = leads_seq x (leads_anywhere Y R)

pub leads_name : {R : Stops} → Leads Name R (IsBefore kind.Name)
leads_name = record { leads = λ h r. name_kind h.stands }

-- X (separator X)*, where X is read in one way before the separator and where they end
pub only_separated : {A : Type 0} {X : Shape A} {M S : Stops} (k : TokenKind) → Sound X → Only X M → ((ts : List Terminal) (i : ℕ) → HasKind ts i k → M ts i) → ((ts : List Terminal) (i : ℕ) → S ts i → M ts i) → Clash (IsBefore k) S
    → Only (Separated k X) S
only_separated {X = X} {M = M} {S = S} k sound x sep ends apart =
    let after = sound_after k sound in
    let begins : Leads (After k X) Anywhere M = leads_after X k Anywhere M sep in
    let begin : Leads (After k X) Anywhere (IsBefore k) = leads_after X k Anywhere (IsBefore k) (λ ts i h. h) in
    only_of _ (only_seq sound (sound_many after) x (leads_many begins ends) (only_many {S = S} after (only_after k sound x) begin apart sep ends))
