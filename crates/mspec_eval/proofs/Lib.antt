mod EntryLaws
mod ReckonLaws
mod SizeLaws
mod ValueLaws
mod ViewLaws
mod WorthLaws
