-- Worked rows of a drill, by computation alone.
use Rattle.std.proofs.Common.{◌≡◌, ℕ, List, [], ◌∷◌, ◌++◌, map, refl}
use Rattle.std.specs.Prelude.{◌==◌, if◌then◌else◌, codes}
use Rattle.std.specs.Fmt.{digits}
use Rattle.order_meaning.specs.declared.Side.{Side}
use Rattle.order_meaning.specs.declared.Side.TheVariants.{Client, Venue}
use Rattle.capture_text.specs.declared.capture.Event.{Event}
use Rattle.capture_text.specs.declared.capture.Event.TheVariants as event
use Rattle.drill_day.specs.declared.order.OrderKind.TheVariants.{Filled, Busted}
use Rattle.drill_day.specs.Drill.{next, orders_from, kinds_of, drill_events}

-- the first two orders from 1 on
orders : orders_from 1 2
    ≡ record { quantity = 5000; price = 99; side = 2; kind = Filled }
    ∷ record { quantity = 3400; price = 79; side = 2; kind = Busted } ∷ []
unfolding next
orders = refl

kinds : kinds_of 1 2 ≡ record { filled = 1; busted = 1; corrected = 0; rejected = 0 }
unfolding next
kinds = refl

four : kinds_of 7 4 ≡ record { filled = 1; busted = 1; corrected = 1; rejected = 1 }
unfolding next
four = refl

-- where draws stand still
still : next 65536 ≡ 65536
unfolding next
still = refl

-- The life of four orders from 7 on, one of each kind; `|` stands for SOH. The draws and the
-- messages were computed apart from these definitions.
abbrev soh : ℕ → ℕ
soh byte = if byte == 124 then 1 else byte

abbrev frame : Side → List ℕ → Event
frame side body = event.Frame side (map soh body)

life : drill_events 7 4
    ≡ event.At 1704189600000 ∷ event.Opened Venue
    ∷ frame Venue (codes "35=A|49=VENU|56=GATE|34=1|52=20240102-10:00:00|"
    ++ codes "98=0|108=30|1137=9|")
    ∷ event.Opened Client
    ∷ frame Client (codes "35=A|49=CLNT|56=GATE|34=1|52=20240102-10:00:00|"
    ++ codes "98=0|108=30|")
    ∷ frame Client (codes "35=D|49=CLNT|56=GATE|34=2|52=20240102-10:00:00|"
    ++ codes "11=C1|21=1|55=SYM|54=1|60=20240102-10:00:00|38=5000|40=2|44=99|")
    ∷ frame Venue (codes "35=8|49=VENU|56=GATE|34=2|52=20240102-10:00:00|"
    ++ codes "37=O1|11=C1|17=E1|150=0|39=0|55=SYM|54=1|151=5000|14=0|6=0|")
    ∷ frame Venue (codes "35=8|49=VENU|56=GATE|34=3|52=20240102-10:00:00|"
    ++ codes "37=O1|11=C1|17=E2|150=F|39=1|55=SYM|54=1|32=2500|31=99|151=2500|14=2500|6=99|")
    ∷ frame Venue (codes "35=8|49=VENU|56=GATE|34=4|52=20240102-10:00:00|"
    ++ codes "37=O1|11=C1|17=E3|19=E2|150=H|39=0|55=SYM|54=1|151=5000|14=0|6=0|")
    ∷ frame Client (codes "35=D|49=CLNT|56=GATE|34=3|52=20240102-10:00:00|"
    ++ codes "11=C2|21=1|55=SYM|54=1|60=20240102-10:00:00|38=1200|40=2|44=92|")
    ∷ frame Venue (codes "35=8|49=VENU|56=GATE|34=5|52=20240102-10:00:00|"
    ++ codes "37=O2|11=C2|17=E4|150=0|39=0|55=SYM|54=1|151=1200|14=0|6=0|")
    ∷ frame Venue (codes "35=8|49=VENU|56=GATE|34=6|52=20240102-10:00:00|"
    ++ codes "37=O2|11=C2|17=E5|150=F|39=1|55=SYM|54=1|32=600|31=92|151=600|14=600|6=92|")
    ∷ frame Venue (codes "35=8|49=VENU|56=GATE|34=7|52=20240102-10:00:00|"
    ++ codes "37=O2|11=C2|17=E6|19=E5|150=G|39=1|55=SYM|54=1|32=300|31=92|151=900|14=300|6=92|")
    ∷ frame Client (codes "35=D|49=CLNT|56=GATE|34=4|52=20240102-10:00:00|"
    ++ codes "11=C3|21=1|55=SYM|54=1|60=20240102-10:00:00|38=500|40=2|44=17|")
    ∷ frame Venue (codes "35=8|49=VENU|56=GATE|34=8|52=20240102-10:00:00|"
    ++ codes "37=O3|11=C3|17=E7|150=0|39=0|55=SYM|54=1|151=500|14=0|6=0|")
    ∷ frame Venue (codes "35=8|49=VENU|56=GATE|34=9|52=20240102-10:00:00|"
    ++ codes "37=O3|11=C3|17=E8|150=F|39=2|55=SYM|54=1|32=500|31=17|151=0|14=500|6=17|")
    ∷ frame Client (codes "35=D|49=CLNT|56=GATE|34=5|52=20240102-10:00:00|"
    ++ codes "11=C4|21=1|55=SYM|54=2|60=20240102-10:00:00|38=3200|40=2|44=47|")
    ∷ frame Venue (codes "35=8|49=VENU|56=GATE|34=10|52=20240102-10:00:00|"
    ++ codes "37=O4|11=C4|17=E9|150=8|39=8|103=0|55=SYM|54=2|151=0|14=0|6=0|") ∷ []
unfolding next digits
life = refl
