-- The examples, by computing.
use Rattle.std.proofs.Common.{refl, inl, inr, arith}
use Rattle.record.specs.Numbers.{le, value, between}
use Rattle.record.specs.Nodes.{nil, bytes_of}
use Rattle.record.specs.declared.fault.Flaw.TheVariants.{CutShort, TextTooLong}
use Rattle.record.specs.Record.{first, inside, after}
use Rattle.record.specs.Examples.{Examples}

pub examples_hold : Examples
unfolding le value between bytes_of
examples_hold =
    record {
      empty = (record { nodes = nil; fits = tt; spelt = refl; size = omega arith; number = omega arith; depth = omega arith }, refl);
      one = (record { nodes = _; fits = omega arith; spelt = refl; size = omega arith; number = omega arith; depth = omega arith }, refl);
      two = (record { nodes = _; fits = omega arith; spelt = refl; size = omega arith; number = omega arith; depth = omega arith }, refl);
      nested = (record { nodes = _; fits = omega arith; spelt = refl; size = omega arith; number = omega arith; depth = omega arith }, refl);
      no_head = inr (record { size = omega arith; offset = _; end = _; level = _; before = _; due = first (omega arith); flaw = CutShort; called = (omega arith, omega arith, inl (omega arith)); is = refl });
      too_small = inr (record { size = omega arith; offset = _; end = _; level = _; before = _; due = first (omega arith); flaw = CutShort; called = (omega arith, omega arith, inr (inl (omega arith))); is = refl });
      past = inr (record { size = omega arith; offset = _; end = _; level = _; before = _; due = first (omega arith); flaw = CutShort; called = (omega arith, omega arith, inr (inr (omega arith))); is = refl });
      past_later =
          inr (record {
            size = omega arith;
            offset = 10;
            end = 11;
            level = 1;
            before = 1;
            due = after nil (first (omega arith)) (omega arith) (record { fits = tt; spelt = refl; depth = omega arith; number = omega arith }) (omega arith);
            flaw = CutShort;
            called = (omega arith, omega arith, inl (omega arith));
            is = refl;
          });
      text = inr (record { size = omega arith; offset = _; end = _; level = _; before = _; due = first (omega arith); flaw = TextTooLong; called = omega arith; is = refl });
      text_inside =
          inr (record {
            size = omega arith;
            offset = 8;
            end = 16;
            level = 2;
            before = 1;
            due = inside (first (omega arith)) (omega arith) (omega arith);
            flaw = TextTooLong;
            called = omega arith;
            is = refl;
          });
    }
