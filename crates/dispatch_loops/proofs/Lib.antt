mod SettingLaws
mod TurnTexts
