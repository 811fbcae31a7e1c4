-- A node has no flaw, or one flaw first.
use Rattle.std.proofs.Common.{◌≡◌, ℕ, ◌+◌, ◌⊎◌, List, refl, inl, inr, arith}
use Rattle.std.proofs.lemmas.Bool.{cases_lt}
use Rattle.record.specs.Limits.{max_nodes, max_levels}
use Rattle.record.specs.declared.fault.Flaw.{Flaw}
use Rattle.record.specs.declared.fault.Flaw.TheVariants.{TooDeep, TooMany, CutShort, TextTooLong}
use Rattle.record.specs.Record.{size_at, inside_at, end_at, Called, Sound, OneFlaw}

module _ (bytes : List ℕ) (o end level before : ℕ) where
  pub settle : Sound bytes o end level before ⊎ ((f : Flaw) × Called bytes o end level before f)
  settle =
      elim (cases_lt max_levels level) [
        | inl h ↦ inr (TooDeep, h)
        | inr a ↦
            elim (cases_lt before max_nodes) [
              | inr h ↦ inr (TooMany, (a, h))
              | inl b ↦
                  elim (cases_lt end (o + 8)) [
                    | inl h ↦ inr (CutShort, (a, b, inl h))
                    | inr c ↦
                        elim (cases_lt (size_at bytes o) 4) [
                          | inl h ↦ inr (CutShort, (a, b, inr (inl h)))
                          | inr d ↦
                              elim (cases_lt end (end_at bytes o)) [
                                | inl h ↦ inr (CutShort, (a, b, inr (inr h)))
                                | inr e ↦
                                    elim (cases_lt (end_at bytes o) (inside_at bytes o)) [
                                      | inl h ↦ inr (TextTooLong, (a, b, c, d, e, h))
                                      | inr f ↦
                                          inl (record { level_fits = a; number_fits = b; head_fits = c; size_holds = d; size_fits = e; text_fits = f })
                                    ]
                              ]
                        ]
                  ]
            ]
      ]

  pub sound_not_called : (f : Flaw) → Sound bytes o end level before → Called bytes o end level before f → ⊥
  sound_not_called CutShort s c = omega arith
  sound_not_called TextTooLong s c = omega arith
  sound_not_called TooDeep s c = omega arith
  sound_not_called TooMany s c = omega arith

  pub called_one : (f g : Flaw) → Called bytes o end level before f → Called bytes o end level before g → f ≡ g
  called_one CutShort CutShort c d = refl
  called_one CutShort TextTooLong c d = absurd (omega arith)
  called_one CutShort TooDeep c d = absurd (omega arith)
  called_one CutShort TooMany c d = absurd (omega arith)
  called_one TextTooLong CutShort c d = absurd (omega arith)
  called_one TextTooLong TextTooLong c d = refl
  called_one TextTooLong TooDeep c d = absurd (omega arith)
  called_one TextTooLong TooMany c d = absurd (omega arith)
  called_one TooDeep CutShort c d = absurd (omega arith)
  called_one TooDeep TextTooLong c d = absurd (omega arith)
  called_one TooDeep TooDeep c d = refl
  called_one TooDeep TooMany c d = absurd (omega arith)
  called_one TooMany CutShort c d = absurd (omega arith)
  called_one TooMany TextTooLong c d = absurd (omega arith)
  called_one TooMany TooDeep c d = absurd (omega arith)
  called_one TooMany TooMany c d = refl

pub one_flaw : OneFlaw
one_flaw = record { some = settle; not_both = sound_not_called; one = called_one }
