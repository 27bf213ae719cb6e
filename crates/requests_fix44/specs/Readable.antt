-- Own: the requests of FIX 4.4 that can be written: each number, day and moment is one that can be
-- read, and each PartyRole is a number.
use Rattle.dict_fix50.specs.Readable.{IsReadableCancel, IsReadableNew, IsReadableReplace}
use Rattle.dict_fix50.specs.Readable.{IsReadableStatus}
use Rattle.requests_fix44.specs.declared.requests.Msg44.{Msg44}
use Rattle.requests_fix44.specs.declared.requests.Msg44.TheVariants as messages

-- A MESSAGE WHOSE VALUES CAN BE READ
abbrev pub IsReadable44 : Msg44 → Type 0
IsReadable44 (messages.New m) = IsReadableNew m
IsReadable44 (messages.Cancel m) = IsReadableCancel m
IsReadable44 (messages.Replace m) = IsReadableReplace m
IsReadable44 (messages.Status m) = IsReadableStatus m
