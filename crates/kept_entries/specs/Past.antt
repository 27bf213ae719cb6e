-- Inside: how the logic stores the entries of a journal, which clauses alone see.
use Rattle.std.specs.Prelude.{◌≡◌, ℕ, Bool, true, false, List, refl}
use Rattle.std.specs.Coded.{Coded, code_by, coded×, coded_ℕ, coded_bool, coded_list, coded_option}
use Rattle.std.specs.declared.option.Option.{Option}
use Rattle.order_meaning.specs.declared.Side.{Side}
use Rattle.order_meaning.specs.declared.Side.TheVariants.{Client, Venue}
use Rattle.pair_entries.specs.declared.entry.Took.{Took}
use Rattle.pair_entries.specs.declared.entry.Out.{Out}
use Rattle.pair_entries.specs.declared.entry.Entry.{Entry}
use Rattle.pair_entries.specs.Payload.{Next}

abbrev is_client : Side → Bool
is_client Client = true
is_client Venue = false

abbrev side_of : Bool → Side
side_of true = Client
side_of false = Venue

abbrev side_again : (side : Side) → side_of (is_client side) ≡ side
side_again Client = refl
side_again Venue = refl

abbrev coded_side : Coded Side
coded_side = code_by Bool coded_bool is_client side_of side_again

abbrev coded_bytes : Coded (List ℕ)
coded_bytes = coded_list coded_ℕ

abbrev coded_took : Coded Took
coded_took = code_by (Side × (ℕ × List ℕ)) (coded× coded_side (coded× coded_ℕ coded_bytes))
    (λ t. (t.side, (t.number, t.raw)))
    (λ p. record { side = p.0; number = p.1.0; raw = p.1.1 }) (λ _. refl)

abbrev coded_out : Coded Out
coded_out = code_by ((Side × ℕ) × ((Bool × Bool) × (List ℕ × List ℕ)))
    (coded× (coded× coded_side coded_ℕ)
    (coded× (coded× coded_bool coded_bool) (coded× coded_bytes coded_bytes)))
    (λ o. ((o.side, o.number), ((o.admin, o.resend), (o.msg_type, o.content))))
    (λ p. record {
      side = p.0.0;
      number = p.0.1;
      admin = p.1.0.0;
      resend = p.1.0.1;
      msg_type = p.1.1.0;
      content = p.1.1.1;
    })
    (λ _. refl)

abbrev coded_next : Coded Next
coded_next = code_by ((ℕ × ℕ) × (ℕ × ℕ)) (coded× (coded× coded_ℕ coded_ℕ) (coded× coded_ℕ coded_ℕ))
    (λ n. ((n.0, n.1), (n.2, n.3))) (λ p. (p.0.0, p.0.1, p.1.0, p.1.1)) (λ _. refl)

abbrev coded_entry : Coded Entry
coded_entry = code_by ((ℕ × (Bool × Option Took)) × (Next × List Out))
    (coded× (coded× coded_ℕ (coded× coded_bool (coded_option coded_took)))
    (coded× coded_next (coded_list coded_out)))
    (λ e. ((e.at, (e.reset, e.took)), (e.next, e.outs)))
    (λ p. record {
      at = p.0.0;
      reset = p.0.1.0;
      took = p.0.1.1;
      next = p.1.0;
      outs = p.1.1;
    }) (λ _. refl)

abbrev pub coded_entries : Coded (List Entry)
coded_entries = coded_list coded_entry
