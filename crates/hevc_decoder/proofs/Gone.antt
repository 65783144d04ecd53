-- What was output before a unit, or before the end, is no matter to it.
use Rattle.std.proofs.Common.{◌≡◌, inl, inr, ℕ, List, [], ◌++◌, map, refl, sym, ap, subst, ◌∙◌}
use Rattle.std.proofs.Common.{append_assoc, append-nil, Result, Err}
use Rattle.hevc_spec.specs.UnitHeader.{UnitHeader}
use Rattle.hevc_stream.specs.Options.{Options}
use Rattle.hevc_driver.specs.declared.decode_error.DecodeError.{DecodeError}
use Rattle.hevc_driver.specs.declared.decode_error.DecodeError.TheVariants as errors
use Rattle.hevc_stateless.specs.Steps.{Seen}
use Rattle.hevc_decoder.specs.declared.decoded.Shown.{Shown}
use Rattle.hevc_decoder.specs.Names.{shown_at}
use Rattle.hevc_decoder.specs.Scenes.{Scene, accepting}
use Rattle.hevc_decoder.specs.Gives.{Delivered, Unmade, DecodesUnit, Gives, GivesAgain, GivesWhole, Flushed, Closes}

-- so much was output, and all else holds whatever was output before
pub record Adds {B H : Type 0} (R : Scene B H → Scene B H → Type 0) (old new : Scene B H) : Type 0 where
  pub out : List (Shown H)
  pub shown : new.shown ≡ old.shown ++ out
  pub holds : (gone : List (Shown H))
      → R (record { seen = old.seen; shown = gone }) (record { seen = new.seen; shown = gone ++ out })

module _ {B H T : Type 0} where
  adds_delivered : (C : Result T DecodeError → Seen B H → Seen B H → Type 0) (r : Result T DecodeError)
      (k : ℕ) (old new : Scene B H) → Delivered C r k old new → Adds (Delivered C r k) old new
  adds_delivered C r k old new d = record {
    out = map (shown_at k) d.out;
    shown = d.shown;
    holds = λ gone. record { out = d.out; calls = d.calls; shown = refl };
  }

  adds_unmade : (r : Result T DecodeError) (old new : Scene B H) → Unmade r old new → Adds (Unmade r) old new
  adds_unmade r old new u = record {
    out = [];
    shown = ap (λ (s : Scene B H). s.shown) u.same ∙ sym (append-nil old.shown);
    holds = λ gone. record {
      told = u.told;
      same = ap (λ (s : Scene B H). record { seen = s.seen; shown = gone ++ [] }) u.same
          ∙ ap (λ (l : List (Shown H)). record { seen = old.seen; shown = l }) (append-nil gone);
    };
  }

  module _ (r : Result T DecodeError) (k : ℕ) (o : Options) (h : UnitHeader) (bytes : List ℕ) where
    adds_gives : (old new : Scene B H) → Gives r k o h bytes old new → Adds (Gives r k o h bytes) old new
    adds_gives old new (inl d) = let a = adds_delivered (DecodesUnit o h bytes) r k old new d in record {
      out = a.out;
      shown = a.shown;
      holds = λ gone. inl (a.holds gone);
    }
    adds_gives old new (inr u) = let a = adds_unmade r old new u in record {
      out = a.out;
      shown = a.shown;
      holds = λ gone. inr (a.holds gone);
    }

    adds_again : (old new : Scene B H) → GivesAgain r k o h bytes old new → Adds (GivesAgain r k o h bytes) old new
    adds_again old new x =
        let a = adds_delivered (DecodesUnit o h bytes) (Err errors.CheckEvents) k old x.mid x.opens in
        let c = adds_gives (accepting x.mid) new x.again in
        record {
          out = a.out ++ c.out;
          shown = c.shown ∙ ap (λ (l : List (Shown H)). l ++ c.out) a.shown ∙ append_assoc old.shown a.out c.out;
          holds = λ gone. record {
            mid = record { seen = x.mid.seen; shown = gone ++ a.out };
            emptied = x.emptied;
            opens = a.holds gone;
            again = subst
                (λ (l : List (Shown H)). Gives r k o h bytes
                (accepting (record { seen = x.mid.seen; shown = gone ++ a.out })) (record {
                  seen = new.seen;
                  shown = l;
                })) (append_assoc gone a.out c.out) (c.holds (gone ++ a.out));
          };
        }

    pub adds_whole : (old new : Scene B H) → GivesWhole r k o h bytes old new → Adds (GivesWhole r k o h bytes) old new
    adds_whole old new (inl g) = let a = adds_gives old new g.1 in record {
      out = a.out;
      shown = a.shown;
      holds = λ gone. inl (g.0, a.holds gone);
    }
    adds_whole old new (inr g) = let a = adds_again old new g in record {
      out = a.out;
      shown = a.shown;
      holds = λ gone. inr (a.holds gone);
    }

  pub adds_closed : (r : Result T DecodeError) (k : ℕ) (old new : Scene B H) → Closes r k old new
      → Adds (Closes r k) old new
  adds_closed r k old new (inl d) = let a = adds_delivered Flushed r k old new d in record {
    out = a.out;
    shown = a.shown;
    holds = λ gone. inl (a.holds gone);
  }
  adds_closed r k old new (inr u) = let a = adds_unmade r old new u in record {
    out = a.out;
    shown = a.shown;
    holds = λ gone. inr (a.holds gone);
  }
