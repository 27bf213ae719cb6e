-- A journal in both formats, by computation alone.
use Rattle.std.proofs.Common.{◌≡◌, ◌+◌, [], ◌∷◌, ℕ, List, length, take, true, false, None}
use Rattle.std.proofs.Common.{refl}
use Rattle.std.specs.Prelude.{codes, map, ◌==◌, if◌then◌else◌}
use Rattle.order_meaning.specs.declared.names.Names.{Names}
use Rattle.order_meaning.specs.declared.Side.TheVariants.{Venue}
use Rattle.gate_log.specs.Records.{blocks}
use Rattle.pair_entries.specs.declared.entry.Entry.{Entry}
use Rattle.journal_migrate.specs.Format1.{birth1_bytes, payloads1_of}
use Rattle.journal_migrate.specs.Migrating.{image_of}

abbrev names : Names
names = record {
  client_our = codes "GATE";
  client_peer = codes "CLNT";
  venue_our = codes "GATE";
  venue_peer = codes "VENU";
}

abbrev soh : List ℕ → List ℕ
soh text = map (λ byte. if byte == 124 then 1 else byte) text

-- the Logon to the venue
abbrev logon : Entry
logon = record {
  at = 1704189600000;
  reset = false;
  took = None;
  next = (1, 1, 1, 2);
  outs = (record {
    side = Venue;
    number = 1;
    admin = true;
    resend = false;
    msg_type = codes "A";
    content = soh (codes "98=0|108=30|1137=9|");
  }) ∷ [];
}

marked : take 11 (birth1_bytes names) ≡ codes "FIXGATEWAY1"
marked = refl

-- four bytes more for each entry
long1 : length (blocks (payloads1_of names (logon ∷ []))) + 1 ≡ 223
long1 = refl

long : length (image_of names (logon ∷ [])) ≡ 227
long = refl
