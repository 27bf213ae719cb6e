-- A worked request of FIX 4.4 as a struct: the content in which it is written, by computation.
use Rattle.std.specs.Prelude.{◌≡◌, [], ◌∷◌, codes, true, Some, None, refl}
use Rattle.std.specs.Fmt.{digits}
use Rattle.typed_fields.specs.Digits.{zero_padded}
use Rattle.requests_fix44.specs.Content.{content44}
use Rattle.dict_fix50.specs.declared.requests.Status50.{Status50}
use Rattle.requests_fix44.specs.declared.requests.Msg44.TheVariants.{Status}

-- a status request of the client C7, on a future that falls due on 30 June 2024
abbrev sample : Status50
sample = record {
  resend = true;
  cl_ord_id = codes "A1";
  order_id = None;
  parties = record { id = codes "C7"; role = 3 } ∷ record { id = codes "B2"; role = 17 } ∷ [];
  account = None;
  symbol = codes "IBM";
  symbol_sfx = None;
  security_id = None;
  id_source = Some 49;
  security_type = Some (codes "FUT");
  maturity = Some (record { month = record { year = 2024; month = 6 }; day = Some 30 });
  security_exchange = None;
  side = 49;
}

-- all parties are written, with PartyIDSource (447) D; the month stands beside its date, and
-- PossResend (97) is of the header
written : content44 (Status sample)
    ≡ (11, codes "A1") ∷ (453, codes "2") ∷
    (448, codes "C7") ∷ (447, codes "D") ∷ (452, codes "3") ∷
    (448, codes "B2") ∷ (447, codes "D") ∷ (452, codes "17") ∷
    (55, codes "IBM") ∷ (22, codes "1") ∷ (167, codes "FUT") ∷
    (200, codes "202406") ∷ (541, codes "20240630") ∷ (54, codes "1") ∷ []
unfolding digits zero_padded
written = refl
