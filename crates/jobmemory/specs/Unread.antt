-- The refusal of a text that is not read, by its number and values (document 01, 'Turned back'). Assumes nothing.
use Rattle.model.specs.Answer.{Summary, refusal}
use Rattle.reader.specs.declared.Unread.{Unread}

abbrev pub unread_summary : Unread → Summary
unread_summary (Unread.TooMany start) = refusal 2 0 start 0
unread_summary (Unread.SpaceShort start) = refusal 6 0 start 0
unread_summary Unread.TooLong = refusal 10 0 0 0
unread_summary (Unread.Malformed line) = refusal 11 line 0 0
