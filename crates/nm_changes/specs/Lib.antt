pub mod WantedTags
