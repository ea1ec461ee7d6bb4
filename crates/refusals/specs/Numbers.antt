-- The number of each refusal (document 01, "Numbers and refusals"). Assumes nothing.
use Rattle.std.specs.Prelude.{ℕ}
use Rattle.refusals.specs.declared.Refusal.{Refusal}
use Rattle.refusals.specs.declared.Refusal.TheVariants.{Header, Checksum, OptionLength, NoRequest, QuickStartOption, TtlExpired, OutOfRange, OverAllowance, TimeBackwards, TooSoon, WrongState, NoResponse, WrongRate, WrongTtlDiff, WrongNonce}

-- "A refusal returns its number"; above each stands the paper's row, for 10 and 11 what the paper says under "Sender"
abbrev pub number_of : Refusal → ℕ
-- slice, version, header or total length wrong
number_of Header = 1
-- header checksum wrong
number_of Checksum = 2
-- option length wrong
number_of OptionLength = 3
-- receiver finds no request, or an option buffer read as one isn't type 25, length 8, function 0
number_of NoRequest = 4
-- Quick-Start length not 8, or a second one
number_of QuickStartOption = 5
-- router meets IP TTL 0 or 1
number_of TtlExpired = 6
-- a number or buffer length outside its range
number_of OutOfRange = 7
-- ledger row's total, as lent, above A
number_of OverAllowance = 8
-- time or tick before the stored one
number_of TimeBackwards = 9
-- asking while asked or quick, or when less than the round trip has passed since the last request
number_of TooSoon = 10
-- a response or giving up while not asked, a first acknowledgement or a loss while not quick
number_of WrongState = 11
-- response not of kind 27, length 8
number_of NoResponse = 12
-- rate 0 or above the code asked
number_of WrongRate = 13
-- TTL Diff wrong
number_of WrongTtlDiff = 14
-- nonce wrong
number_of WrongNonce = 15
