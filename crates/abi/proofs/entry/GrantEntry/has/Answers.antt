use Rattle.std.proofs.Common.{◌≡◌, ◌/◌, ◌%◌, not, eqb, sym, subst, inl, inr}
use lib.Bits.{bit_and}
use Rattle.abi.proofs.Flags.{flag_set}
use Rattle.abi.proofs.entry.GrantEntry.has.Goals as goal

pub returns : goal.returns
returns c =
    let n = c.args.self.flags in
    elim c.requires [
      | inl e ↦ subst (λ f. not (eqb (bit_and n f) 0) ≡ eqb (n / f % 2) 1) (sym e) (flag_set n 2)
      | inr (inl e) ↦ subst (λ f. not (eqb (bit_and n f) 0) ≡ eqb (n / f % 2) 1) (sym e) (flag_set n 3)
      | inr (inr e) ↦ subst (λ f. not (eqb (bit_and n f) 0) ≡ eqb (n / f % 2) 1) (sym e) (flag_set n 4)
    ]
