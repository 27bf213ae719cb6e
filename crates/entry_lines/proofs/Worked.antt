-- Worked lines, by computation alone.
use Rattle.std.proofs.Common.{◌≡◌, [], ◌∷◌, ◌++◌, refl, true, false, Some, None}
use Rattle.std.specs.Prelude.{codes}
use Rattle.std.specs.Fmt.{digits}
use Rattle.order_meaning.specs.declared.Side.TheVariants.{Client, Venue}
use Rattle.pair_entries.specs.declared.entry.Entry.{Entry}
use Rattle.entry_lines.specs.EntryLine.{type_in, entry_line}

type_is : type_in (codes "35=AE" ++ 1 ∷ codes "34=2") ≡ codes "AE"
type_is = refl

type_of_another_field : type_in (codes "34=2") ≡ []
type_of_another_field = refl

-- the client's order goes up, and so does a Logout
abbrev entry : Entry
entry = record {
  at = 258;
  reset = false;
  took = Some (record { side = Client; number = 12; raw = codes "35=D" ++ 1 ∷ [] });
  next = (13, 1, 1, 5);
  outs = (record {
    side = Venue;
    number = 3;
    admin = false;
    resend = false;
    msg_type = codes "D";
    content = [];
  }) ∷ (record {
    side = Client;
    number = 4;
    admin = false;
    resend = false;
    msg_type = codes "5";
    content = [];
  }) ∷ [];
}

line_is : entry_line 7 entry
    ≡ codes "7 at=258 took=client:12:D outs=venue:3:D,client:4:5 next=13,1,1,5\n"
unfolding digits entry_line
line_is = refl

nothing : entry_line 1 (record {
  at = 0;
  reset = false;
  took = None;
  next = (1, 1, 1, 2);
  outs = [];
}) ≡ codes "1 at=0 took=none outs=none next=1,1,1,2\n"
unfolding digits entry_line
nothing = refl

-- a new day
new_day : entry_line 2 (record {
  at = 258;
  reset = true;
  took = None;
  next = (1, 1, 1, 1);
  outs = [];
}) ≡ codes "2 at=258 took=day outs=none next=1,1,1,1\n"
unfolding digits entry_line
new_day = refl
